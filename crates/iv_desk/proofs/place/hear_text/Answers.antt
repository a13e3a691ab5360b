use Rattle.iv_desk.proofs.OneNumber.{IsHearing-message}
use Rattle.iv_desk.proofs.place.hear_text.Goals as goal

pub returns-in-Ok : goal.returns-in-Ok
returns-in-Ok c = λ g s w.
    IsHearing-message c.sockets_carry_what_is_told.ensures.carries c.events_leave_their_marks.ensures.marks g c.args.at s c.args.text.now c.args.gateway.now
    c.args.place.now c.said.new.self w c.if-not-place.false
    (c.in-Ok.ensures.gate w.now w.gate)
