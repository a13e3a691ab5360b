use Rattle.std.proofs.Common.{Bor, sym, append-nil}
use Rattle.iv_access.specs.Rights.{Name}
use Rattle.iv_notices.proofs.NewRights.{rel_next}
use Rattle.iv_notices.proofs.newly.push_new.Goals as goal

pub loop-rel-init : goal.loop-rel-init
loop-rel-init c = sym (append-nil c.args.text.now.items)

pub loop-rel-preserved : goal.loop-rel-preserved
loop-rel-preserved c =
    rel_next (λ (n : Bor Name). n.now) c.args.engine.now.frame c.args.before.now c.args.rels.now c.loop-rel.rel-index _ c.args.text.now.items c.loop-rel.text.items
    c.push_one.new.text.items c.loop-rel-test.true c.loop-rel.invariant c.in_ok-push_one.ensures
