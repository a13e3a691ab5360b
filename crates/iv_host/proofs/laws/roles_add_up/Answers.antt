use Rattle.iv_host.proofs.RoleCounts.{clients_in-one_more}
use Rattle.iv_host.proofs.laws.roles_add_up.Goals as goal

pub returns : goal.returns
returns c = clients_in-one_more
