use Rattle.iv_roles.proofs.Chains.{Follows-reaches}
use Rattle.iv_roles.proofs.laws.chains_are_followed.Goals as goal

pub returns : goal.returns
returns c = λ ms role other. Follows-reaches ms role other
