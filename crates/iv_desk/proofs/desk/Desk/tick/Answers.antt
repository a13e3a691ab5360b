use Rattle.std.proofs.Common.{refl}
use Rattle.iv_gate.specs.Events.{ticked}
use Rattle.iv_desk.specs.Front.{by_event}
use Rattle.iv_desk.proofs.DeskStates.{IsBehind-IsDesk, IsBehind-by_event, IsDesk-IsBehind}
use Rattle.iv_desk.proofs.desk.Desk.tick.Goals as goal

pub returns-in-Ok-clause-front : goal.returns-in-Ok-clause-front
returns-in-Ok-clause-front c = λ d b.
    let a = IsBehind-IsDesk d c.args.self.now b c.if-self.false in
    IsDesk-IsBehind (by_event ticked d) _
    (IsBehind-by_event c.events_leave_their_marks.ensures.marks d ticked tt c.args.self.now.gateway c.tick.new.self c.args.self.now.places.items a
    (c.in-Ok.ensures.gate d.gate a.gate) refl)
    c.if-self.false
