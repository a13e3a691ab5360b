use Rattle.std.specs.Prelude.{slice_get}
use Rattle.std.specs.List.{list_any, position}
use Rattle.iv_access.specs.Policies.{forbids, is_exempt, permits, policies_of}
use Rattle.iv_access.proofs.PolicyOrder.{Rise-IsReached, is-Restrictive, IsFirstByName-Rise}
use Rattle.iv_access.proofs.laws.first_by_name_is_told.Goals as goal

pub returns : goal.returns
returns c = λ r role table test row place h e.
    let ps = policies_of (slice_get r.guards table) in
    IsFirstByName-Rise (forbids r role test row) ps place (Rise-IsReached h table)
    (is-Restrictive (is_exempt r role (slice_get r.guards table)) (list_any (permits r role test row) ps) (position (forbids r role test row) ps) place e)
