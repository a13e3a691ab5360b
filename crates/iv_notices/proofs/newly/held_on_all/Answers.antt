use Rattle.std.proofs.Common.{Bor}
use Rattle.iv_access.specs.Rights.{Name}
use Rattle.iv_notices.specs.Newly.{held_in}
use Rattle.iv_notices.proofs.NewRights.{one_held}
use Rattle.iv_notices.proofs.newly.held_on_all.Goals as goal

pub loop-rel-preserved : goal.loop-rel-preserved
loop-rel-preserved c =
    one_held (λ (n : Bor Name). n.now) (held_in c.args.engine.now.frame c.args.role.now) c.args.rels.now c.loop-rel.rel-index _ c.loop-rel.all.items _ c.in_ok-one.one
    c.loop-rel-test.true c.loop-rel.invariant c.in_ok-push.ensures.items c.in_ok-one.ensures
