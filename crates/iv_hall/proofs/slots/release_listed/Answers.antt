use Rattle.iv_clients.specs.Kept.{releasing}
use Rattle.iv_hall.proofs.ClientWalks.{walked-take_next}
use Rattle.iv_hall.proofs.slots.release_listed.Goals as goal

pub loop-number-preserved : goal.loop-number-preserved
loop-number-preserved c =
    walked-take_next (releasing) c.args.numbers.now c.loop-number.number-index c.args.clients.now.items c.loop-number.clients.items
    c.release_at.new.clients.items
    c.loop-number-test.true
    c.loop-number.invariant c.in_ok-release_at.ensures
