use Rattle.iv_access.proofs.GrantNames.{is_among-for_each_revoked}
use Rattle.iv_access.proofs.laws.revokes_take_what_they_name.Goals as goal

pub returns : goal.returns
returns c = λ r rel ps to g. is_among-for_each_revoked rel ps to g r.grants
