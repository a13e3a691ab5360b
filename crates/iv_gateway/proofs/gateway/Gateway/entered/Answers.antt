use Rattle.std.proofs.Common.{◌∙◌}
use Rattle.iv_gateway.proofs.gateway.Gateway.entered.Goals as goal

pub returns : goal.returns
returns c = λ g is lives. c.deref.ensures.value ∙ (is.alive lives).pending.lines
