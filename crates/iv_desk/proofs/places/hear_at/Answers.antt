use Rattle.std.proofs.Common.{arith}
use Rattle.std.proofs.lemmas.Grind.{common_steps}
use Rattle.iv_desk.proofs.StatesAfterStep.{IsHeardBehind-IsHeardAt, IsHeardBehind-past}
use Rattle.iv_desk.proofs.places.hear_at.Goals as goal

pub returns-in-None : goal.returns-in-None
returns-in-None c = λ d b. IsHeardBehind-past d c.args.at c.args.gateway.now c.args.places.now.items b (grind (arith, common_steps))

pub returns-in_ok-hearing-in-Some : goal.returns-in_ok-hearing-in-Some
returns-in_ok-hearing-in-Some c =
    λ d b. IsHeardBehind-IsHeardAt d c.args.at c.in_ok-hearing-in-Some.hearing c.args.gateway.now c.hear_slot.new.gateway c.args.places.now.items
    c.in-Some.slot.now c.hear_slot.new.slot b (grind (arith, common_steps)) c.in-Some.ensures.value
    c.in_ok-hearing-in-Some.ensures
