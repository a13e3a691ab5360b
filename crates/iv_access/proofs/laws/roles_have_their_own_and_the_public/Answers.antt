use Rattle.iv_access.proofs.GrantSets.{has_by, has-HasBy}
use Rattle.iv_access.proofs.laws.roles_have_their_own_and_the_public.Goals as goal

pub returns : goal.returns
returns c = λ r role p rel. (has_by r role p rel, λ h. has-HasBy h)
