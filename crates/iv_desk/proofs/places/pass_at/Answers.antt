use Rattle.std.proofs.Common.{arith}
use Rattle.std.proofs.lemmas.Grind.{common_steps}
use Rattle.iv_peer.specs.Socket.{passing}
use Rattle.iv_desk.specs.Desks.{with_peer}
use Rattle.iv_clients.proofs.Slots.{at_client-past, at_client-set}
use Rattle.iv_desk.proofs.places.pass_at.Goals as goal

pub returns-in-Some : goal.returns-in-Some
returns-in-Some c = at_client-set c.args.at (with_peer (passing c.args.count)) c.args.places.now.items c.in-Some.slot.now _ (grind (arith, common_steps))
    c.in-Some.ensures.value c.pass_slot.ensures

pub returns-in_default : goal.returns-in_default
returns-in_default c = at_client-past c.args.at (with_peer (passing c.args.count)) c.args.places.now.items (grind (arith, common_steps))
