use Rattle.iv_access.proofs.PolicyOrder.{Rise-IsReached}
use Rattle.iv_access.proofs.laws.policies_rise_by_name.Goals as goal

pub returns : goal.returns
returns c = λ r h table. Rise-IsReached h table
