use Rattle.std.proofs.Common.{arith}
use Rattle.std.proofs.lemmas.Grind.{common_steps}
use Rattle.iv_clients.proofs.Slots.{at_client-past, at_client-set}
use Rattle.iv_hall.proofs.slots.take_at.Goals as goal

pub returns-in-None-clause-slots : goal.returns-in-None-clause-slots
returns-in-None-clause-slots c = at_client-past _ _ _ (grind (arith, common_steps))

pub returns-in-Some-clause-slots : goal.returns-in-Some-clause-slots
returns-in-Some-clause-slots c = at_client-set c.args.client _ c.args.clients.now.items c.in-Some.slot.now _ (grind (arith, common_steps))
    c.in-Some.ensures.value c.take_slot.ensures.slot
