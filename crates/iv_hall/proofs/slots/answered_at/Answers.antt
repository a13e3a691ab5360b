use Rattle.std.proofs.Common.{arith}
use Rattle.std.proofs.lemmas.Grind.{common_steps}
use Rattle.iv_clients.proofs.Slots.{at_client-past, at_client-set}
use Rattle.iv_hall.proofs.slots.answered_at.Goals as goal

pub returns-in_default : goal.returns-in_default
returns-in_default c = at_client-past c.args.client _ _ (grind (arith, common_steps))

pub returns-in-Some : goal.returns-in-Some
returns-in-Some c = at_client-set c.args.client _ c.args.clients.now.items c.in-Some.slot.now _ (grind (arith, common_steps)) c.in-Some.ensures.value
    c.answered_slot.ensures
