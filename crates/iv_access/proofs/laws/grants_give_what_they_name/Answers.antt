use Rattle.iv_access.proofs.GrantNames.{is_among-for_each_granted}
use Rattle.iv_access.proofs.laws.grants_give_what_they_name.Goals as goal

pub returns : goal.returns
returns c = λ r rel ps to g. is_among-for_each_granted rel ps to g r.grants
