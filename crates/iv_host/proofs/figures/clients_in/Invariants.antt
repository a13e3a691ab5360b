use Rattle.std.proofs.Common.{◌≡◌, drop}
use Rattle.iv_host.specs.Figures.{clients_in}
use Rattle.iv_host.specs.Roles.{by_role, sum_from}
use Rattle.iv_host.proofs.figures.clients_in.Given as goal

abbrev pub invariant-loop-one : goal.invariant-loop-one
invariant-loop-one l = sum_from l.clients (by_role (drop l.one-index l.roles)) ≡ clients_in (by_role l.roles)
