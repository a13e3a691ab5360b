use Rattle.std.proofs.Common.{◌∙◌, sym}
use Rattle.iv_desk.proofs.StatesAfterStep.{IsHeardAt-IsHearing}
use Rattle.iv_desk.proofs.places.hear_slot.Goals as goal

pub returns-in_ok-hearing-in-Some : goal.returns-in_ok-hearing-in-Some
returns-in_ok-hearing-in-Some c = λ g o is a e l.
    IsHeardAt-IsHearing g c.args.at o c.in_ok-hearing-in-Some.hearing c.args.gateway.now c.hear.new.gateway c.in-Some.place c.hear.new.place
    (sym c.in-Some.is ∙ e) is a
    l c.in_ok-hearing-in-Some.ensures
