use Rattle.std.proofs.Common.{sym}
use Rattle.std.specs.Prelude.{slice_get}
use Rattle.iv_access.specs.Policies.{is_exempt, policies_of}
use Rattle.iv_access.proofs.Policies.{is_pass-filter}
use Rattle.iv_access.proofs.laws.rows_pass_where_permitted_and_not_forbidden.Goals as goal

pub returns : goal.returns
returns c = λ r role table test row. sym (is_pass-filter (is_exempt r role (slice_get r.guards table)) r role test row (policies_of (slice_get r.guards table)))
