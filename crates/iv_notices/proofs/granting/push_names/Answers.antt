use Rattle.std.proofs.Common.{Bor, sym, append-nil}
use Rattle.iv_access.specs.Rights.{Name}
use Rattle.iv_notices.proofs.GrantTexts.{text_granted-take_next}
use Rattle.iv_notices.proofs.granting.push_names.Goals as goal

pub loop-name-init : goal.loop-name-init
loop-name-init c = sym (append-nil c.args.text.now.items)

pub loop-name-preserved : goal.loop-name-preserved
loop-name-preserved c =
    text_granted-take_next (λ (n : Bor Name). n.now) c.args.names.now c.loop-name.name-index _ c.args.text.now.items c.loop-name.text.items
    c.push_granted.new.text.items
    c.loop-name-test.true
    c.loop-name.invariant c.in_ok-push_granted.ensures
