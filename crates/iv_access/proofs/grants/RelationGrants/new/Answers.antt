use Rattle.iv_access.proofs.GrantFlags.{IsClear-nobody}
use Rattle.iv_access.proofs.grants.RelationGrants.new.Goals as goal

pub returns : goal.returns
returns c = IsClear-nobody 256
