use Rattle.std.proofs.Common.{refl}
use Rattle.iv_gate.specs.Events.{led}
use Rattle.iv_desk.proofs.DeskStates.{IsDesk-by_event, IsDesk-rests}
use Rattle.iv_desk.proofs.desk.Desk.lead.Goals as goal

pub returns-then-self : goal.returns-then-self
returns-then-self c = λ d b. IsDesk-rests c.events_leave_their_marks.ensures.rests led d c.args.self.now b c.if-self.true

pub returns : goal.returns
returns c = IsDesk-by_event c.events_leave_their_marks.ensures.marks led tt (λ g. refl) c.lead.new.self c.args.self.now c.if-self.false c.lead.ensures
