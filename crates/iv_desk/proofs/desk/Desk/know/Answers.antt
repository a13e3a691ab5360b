use Rattle.std.proofs.Common.{refl}
use Rattle.iv_gate.specs.Events.{known}
use Rattle.iv_desk.specs.Front.{by_event, dismissed}
use Rattle.iv_desk.proofs.DeskStates.{IsCalledOut-IsCalledBehind, IsBehind-IsDesk, IsBehind-by_event}
use Rattle.iv_desk.proofs.desk.Desk.know.Goals as goal

pub returns-in-Ok-clause-front : goal.returns-in-Ok-clause-front
returns-in-Ok-clause-front c = λ d b.
    let a = IsBehind-IsDesk d c.args.self.now b c.if-self.false in
    IsCalledOut-IsCalledBehind dismissed (by_event (known c.args.tokens.items) d) _
    (c.in-Ok.ensures (by_event (known c.args.tokens.items) d)
    (IsBehind-by_event c.events_leave_their_marks.ensures.marks d (known c.args.tokens.items) tt c.args.self.now.gateway c.know.new.self c.args.self.now.places.items a
    (c.know.ensures d.gate a.gate) refl)) c.if-self.false
