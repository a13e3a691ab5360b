use Rattle.std.proofs.Common.{rules}
use Rattle.iv_engine.proofs.policies.+names_user.Goals as goal

pub returns-in-Compare-default-default-User : goal.returns-in-Compare-default-default-User
returns-in-Compare-default-default-User t c = search rules
