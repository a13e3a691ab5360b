use Rattle.iv_roles.proofs.Chains.{reaches-with_membership, reaches-without_membership}
use Rattle.iv_roles.proofs.laws.few_reach_others.Goals as goal

pub returns-clause-come : goal.returns-clause-come
returns-clause-come c = λ ms role member a e b. reaches-with_membership ms role member a e b

pub returns-clause-gone : goal.returns-clause-gone
returns-clause-gone c = λ ms role member a e b. reaches-without_membership ms role member a e b
