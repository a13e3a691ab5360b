use Rattle.std.proofs.Common.{◌∙◌, sym}
use Rattle.iv_desk.proofs.OneNumber.{IsHearing-admitted, IsHearing-refused}
use Rattle.iv_desk.proofs.place.present.Goals as goal

pub returns-in-Ok-true : goal.returns-in-Ok-true
returns-in-Ok-true c = λ g s w new.
    IsHearing-admitted c.sockets_carry_what_is_told.ensures.carries c.events_leave_their_marks.ensures.marks g c.args.at s c.args.token.now c.args.gateway.now
    c.args.place.now c.admit.new.self w new
    (c.in-Ok-true.ensures.gate w.now w.gate) (sym c.in-Ok-true.field-0-test ∙ c.in-Ok-true.ensures.came w.now w.gate)

pub returns-in-Ok : goal.returns-in-Ok
returns-in-Ok c = λ g s w new.
    IsHearing-refused c.sockets_carry_what_is_told.ensures.carries c.events_leave_their_marks.ensures.marks g c.args.at s c.args.token.now c.args.gateway.now
    c.args.place.now c.admit.new.self c.turn_away.new.peer
    c.opens.result w new (c.in-Ok-false.ensures.gate w.now w.gate) (sym c.in-Ok-false.field-0-test ∙ c.in-Ok-false.ensures.came w.now w.gate) c.opens.ensures
    c.in-Ok.ensures
