use Rattle.std.proofs.Common.{◌∙◌, ap}
use Rattle.iv_notices.specs.Newly.{newly_in}
use Rattle.iv_notices.proofs.NewRights.{one_gathered}
use Rattle.iv_notices.proofs.newly.all_newly.Goals as goal

pub loop-one-preserved : goal.loop-one-preserved
loop-one-preserved c =
    one_gathered (newly_in c.args.engine.now.frame) c.args.before.now c.loop-one.one-index c.one-item.result c.loop-one.all.items _ c.in_ok-told.told c.loop-one-test.true
    c.loop-one.invariant c.in_ok-push.ensures.items
    (c.in_ok-told.ensures ∙ ap (newly_in c.args.engine.now.frame) c.one-item.is)
