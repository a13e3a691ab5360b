use Rattle.std.proofs.Common.{arith}
use Rattle.std.proofs.lemmas.Grind.{common_steps}
use Rattle.iv_peer.specs.Socket.{took}
use Rattle.iv_desk.specs.Desks.{with_peer}
use Rattle.iv_clients.proofs.Slots.{at_client-past, at_client-set}
use Rattle.iv_desk.proofs.places.take_at.Goals as goal

pub returns-in-None : goal.returns-in-None
returns-in-None c = at_client-past c.args.at (with_peer (took c.args.bytes.now)) c.args.places.now.items (grind (arith, common_steps))

pub returns-in_ok-take_slot-in-Some : goal.returns-in_ok-take_slot-in-Some
returns-in_ok-take_slot-in-Some c = at_client-set c.args.at (with_peer (took c.args.bytes.now)) c.args.places.now.items c.in-Some.slot.now _
    (grind (arith, common_steps)) c.in-Some.ensures.value c.in_ok-take_slot-in-Some.ensures
