use Rattle.std.proofs.Common.{arith}
use Rattle.std.proofs.lemmas.Grind.{common_steps}
use Rattle.iv_clients.specs.Kept.{releasing}
use Rattle.iv_clients.proofs.Slots.{at_client-past, at_client-set}
use Rattle.iv_hall.proofs.slots.release_at.Goals as goal

pub returns-in-None : goal.returns-in-None
returns-in-None c = at_client-past c.args.client _ _ (grind (arith, common_steps))

pub returns-in_ok-release_slot-in-Some : goal.returns-in_ok-release_slot-in-Some
returns-in_ok-release_slot-in-Some c = at_client-set c.args.client releasing c.args.clients.now.items c.in-Some.slot.now _ (grind (arith, common_steps))
    c.in-Some.ensures.value c.in_ok-release_slot-in-Some.ensures
