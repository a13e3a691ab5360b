use Rattle.std.specs.Prelude.{is_some}
use Rattle.std.proofs.Common.{ap, ◌∙◌, sym}
use Rattle.iv_gate.specs.Events.{arrived}
use Rattle.iv_desk.specs.Front.{by_event}
use Rattle.iv_desk.proofs.DeskStates.{IsBehind-IsDesk, IsBehind-by_event, IsDesk-IsBehind}
use Rattle.iv_desk.proofs.desk.Desk.take_step.Goals as goal

pub returns-in-Ok-clause-front : goal.returns-in-Ok-clause-front
returns-in-Ok-clause-front c = λ d b.
    let a = IsBehind-IsDesk d c.args.self.now b c.if-self.false in
    IsDesk-IsBehind (by_event (arrived c.args.step) d) _
    (IsBehind-by_event c.events_leave_their_marks.ensures.marks d (arrived c.args.step) c.requires c.args.self.now.gateway c.take_step.new.self c.args.self.now.places.items a
    (c.in-Ok.ensures.gate d.gate a.gate) (ap is_some (c.in-Ok.ensures.taken d.gate a.gate).none ∙ sym a.alive))
    c.if-self.false
