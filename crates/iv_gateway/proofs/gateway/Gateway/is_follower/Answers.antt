use Rattle.std.proofs.Common.{◌∙◌, ap, is_some, not, sym}
use Rattle.std.specs.Prelude.{◌&&◌}
use Rattle.iv_gate.specs.Gate.{next_position}
use Rattle.iv_gateway.proofs.NextPositions.{not_turned}
use Rattle.iv_gateway.proofs.gateway.Gateway.is_follower.Goals as goal

pub returns-then-is_none : goal.returns-then-is_none
returns-then-is_none c = λ g b. sym (ap (λ l. l && not (is_some (next_position g))) (ap is_some (sym b.log) ∙ (c.is_none.ensures ∙ ap not c.if-is_none.true)))

pub returns : goal.returns
returns c = λ g b.
    not_turned c.is_none-2.result (is_some (next_position g)) (sym (ap is_some (c.next_position.ensures g b)) ∙ c.is_none-2.ensures)
    ∙ sym (ap (λ l. l && not (is_some (next_position g))) (ap is_some (sym b.log) ∙ (c.is_none.ensures ∙ ap not c.if-is_none.false)))
