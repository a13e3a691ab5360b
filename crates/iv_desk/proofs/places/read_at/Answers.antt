use Rattle.std.proofs.Common.{sym, subst}
use Rattle.iv_peer.specs.Socket.{took}
use Rattle.iv_desk.specs.Front.{at_socket}
use Rattle.iv_desk.specs.Desks.{IsBehind}
use Rattle.iv_desk.proofs.StatesAfterStep.{IsBehind-took}
use Rattle.iv_desk.proofs.places.read_at.Goals as goal

pub returns-in_ok-hearing-in-Ok : goal.returns-in_ok-hearing-in-Ok
returns-in_ok-hearing-in-Ok c = λ d b.
    c.in_ok-hearing-in-Ok.ensures (at_socket c.args.at (took c.args.bytes.now) d)
    (subst (IsBehind (at_socket c.args.at (took c.args.bytes.now) d) c.args.gateway.now) (sym c.in-Ok.ensures)
    (IsBehind-took c.args.bytes.now d c.args.at c.args.gateway.now c.args.places.now.items b))
