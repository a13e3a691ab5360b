use Rattle.std.proofs.Common.{◌∙◌, ap, cond, sym}
use Rattle.iv_gateway.proofs.gateway.Gateway.number_here.Goals as goal

pub returns-then-not-is_follower : goal.returns-then-not-is_follower
returns-then-not-is_follower c = λ g b. sym (ap (λ l. cond l 100 c.args.number) (sym (c.is_follower.ensures g b) ∙ c.if-not-is_follower.true))

pub returns : goal.returns
returns c = λ g b. sym (ap (λ l. cond l 100 c.args.number) (sym (c.is_follower.ensures g b) ∙ c.if-not-is_follower.false))
