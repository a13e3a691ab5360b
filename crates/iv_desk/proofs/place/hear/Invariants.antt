use Rattle.iv_gate.specs.Gate.{Gate}
use Rattle.iv_peer.specs.Socket.{Socket}
use Rattle.iv_desk.specs.Desks.{IsHearing}
use Rattle.iv_desk.proofs.place.hear.Given as goal

abbrev pub invariant-loop : goal.invariant-loop
invariant-loop l = (g : Gate) (s : Socket) → IsHearing g l.at s l.fn.gateway l.fn.place → IsHearing g l.at s l.gateway l.place
