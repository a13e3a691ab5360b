use Rattle.iv_host.specs.Roles.{by_role}
use Rattle.iv_host.proofs.RoleCounts.{sum_from-clients_in}
use Rattle.iv_host.proofs.figures.clients_in.Goals as goal

pub loop-one-init : goal.loop-one-init
loop-one-init c = sum_from-clients_in (by_role c.args.roles.now)
