use Rattle.std.proofs.Common.{◌∙◌, sym}
use Rattle.iv_gateway.proofs.NextPositions.{next_of, none_next}
use Rattle.iv_gateway.proofs.gateway.Gateway.next_position.Goals as goal

pub returns-then-not-self : goal.returns-then-not-self
returns-then-not-self c = λ g b. none_next g (sym b.leads ∙ c.if-not-self.true)

pub returns : goal.returns
returns c = λ g b. next_of g c.args.self.now.position c.checked_add.result b.position (sym b.leads ∙ c.if-not-self.false) c.checked_add.ensures
