use Rattle.iv_roles.proofs.Chains.{Follows-reaches}
use Rattle.iv_access.proofs.GrantSets.{has-reaches}
use Rattle.iv_access.proofs.laws.members_hold_what_roles_hold.Goals as goal

pub returns : goal.returns
returns c = λ r role other p rel h other_than_admin e. has-reaches r role other p rel ((Follows-reaches r.members role other).1 h) other_than_admin e
