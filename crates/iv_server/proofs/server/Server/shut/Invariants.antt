use Rattle.std.proofs.Common.{◌≡◌, false}
use Rattle.iv_desk.specs.Front.{Front}
use Rattle.iv_desk.specs.Desks.{IsDesk}
use Rattle.iv_running.specs.Running.{Serves}
use Rattle.iv_server.specs.Shutting.{closed_below}
use Rattle.iv_server.proofs.server.Server.shut.Given as goal

abbrev pub invariant-loop-at : goal.invariant-loop-at
invariant-loop-at l =
    Serves l.initial.desk l.desk × ((d : Front) → IsDesk d l.initial.desk → IsDesk (closed_below l.at d) l.desk) × (l.self.open ≡ false)
