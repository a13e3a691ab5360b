use Rattle.std.proofs.Common.{drop}
use Rattle.iv_gate.specs.Gate.{Gate}
use Rattle.iv_gateway.specs.Views.{IsAlive}
use Rattle.iv_gateway.proofs.RoleSessions.{IsResting}
use Rattle.iv_gateway.proofs.gateway.Gateway.rest_all.Given as goal

abbrev pub invariant-loop-seat : goal.invariant-loop-seat
invariant-loop-seat l = (g : Gate) → IsAlive g l.fn.self → IsResting g l.seats (drop l.seat-index l.seats) l.self
