use Rattle.std.proofs.Common.{◌∙◌, rules, subst, sym}
use Rattle.iv_clients.specs.Kept.{kept_slots}
use Rattle.iv_notices.specs.Newly.{AreBefore, AreReadable}
use Rattle.iv_gateway.proofs.gateway.Gateway.readable_before.Goals as goal

pub returns-then-are_writes : goal.returns-then-are_writes
returns-then-are_writes c = λ g b.
    subst (λ w. AreBefore g.machine.frame w c.new.result.items (kept_slots g.clients)) (sym c.if-are_writes.true ∙ c.are_writes.ensures) (search rules)

pub returns : goal.returns
returns c = λ g b.
    subst (λ w. AreBefore g.machine.frame w c.in_ok-all.all.items (kept_slots g.clients)) (sym c.if-are_writes.false ∙ c.are_writes.ensures)
    (subst (λ f. AreReadable f c.in_ok-all.all.items (kept_slots g.clients)) (sym b.machine.frame)
    (subst (λ ps. AreReadable c.args.self.now.engine.frame c.in_ok-all.all.items ps) b.clients c.in_ok-all.ensures))
