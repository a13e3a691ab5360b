use Rattle.std.proofs.Common.{◌∙◌, ap, is_some, sym}
use Rattle.iv_gate.specs.Gate.{is_elsewhere}
use Rattle.iv_gateway.proofs.gateway.Gateway.is_elsewhere.Goals as goal

pub returns-in-None : goal.returns-in-None
returns-in-None c = λ g b. c.is_some.ensures ∙ (ap is_some b.log ∙ ap (is_elsewhere g) (sym c.in-None.is))

pub returns-in-Some : goal.returns-in-Some
returns-in-Some c = λ g b. c.is_follower.ensures g b ∙ ap (is_elsewhere g) (sym c.in-Some.is)
