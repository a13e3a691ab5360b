use Rattle.iv_clients.proofs.TokenParts.{role_in-not_IsUtf8}
use Rattle.iv_clients.proofs.tokens.role_in.Goals as goal

pub returns-in_default : goal.returns-in_default
returns-in_default c = role_in-not_IsUtf8 c.args.role.now c.in_default.ensures.cases.0
