use Rattle.iv_readers.proofs.FlagLists.{differing-take_next}
use Rattle.iv_readers.proofs.flags.differing.Goals as goal

pub loop-place-preserved : goal.loop-place-preserved
loop-place-preserved c =
    differing-take_next c.args.before.now c.args.after.now c.loop-place.place c.loop-place.flags.items c.push.new.self.items c.requires c.loop-place-test.true c.loop-place.invariant c.in_ok-push.ensures.items
