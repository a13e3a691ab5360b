use Rattle.iv_roles.proofs.Flags.{get_or-replicate_false}
use Rattle.iv_roles.proofs.memberships.no_flags.Goals as goal

pub returns : goal.returns
returns c = get_or-replicate_false 256
