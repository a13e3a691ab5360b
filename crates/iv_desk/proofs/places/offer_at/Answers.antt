use Rattle.std.proofs.Common.{arith}
use Rattle.std.proofs.lemmas.Grind.{common_steps}
use Rattle.iv_desk.proofs.StatesAfterStep.{IsBehind-offered, IsBehind-offered_past}
use Rattle.iv_desk.proofs.places.offer_at.Goals as goal

pub returns-in-None : goal.returns-in-None
returns-in-None c = λ d b. IsBehind-offered_past d c.args.at c.args.gateway.now c.args.places.now.items b (grind (arith, common_steps))

pub returns-in_ok-offer_slot-in-Some : goal.returns-in_ok-offer_slot-in-Some
returns-in_ok-offer_slot-in-Some c = λ d b. IsBehind-offered c.events_leave_their_marks.ensures.marks d c.args.at c.args.gateway.now c.offer_slot.new.gateway
    c.args.places.now.items c.in-Some.slot.now c.offer_slot.new.slot b (grind (arith, common_steps)) c.in-Some.ensures.value
    c.in_ok-offer_slot-in-Some.ensures
