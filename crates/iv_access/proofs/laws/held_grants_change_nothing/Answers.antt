use Rattle.iv_access.proofs.GrantNames.{for_each-all_held}
use Rattle.iv_access.proofs.laws.held_grants_change_nothing.Goals as goal

pub returns : goal.returns
returns c = λ r rel ps to h i. record { roles = r.roles; members = r.members; guards = r.guards; grants = for_each-all_held rel ps to r.grants h i }
