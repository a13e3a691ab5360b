use Rattle.std.proofs.Common.{◌∙◌, None, sym, subst}
use Rattle.iv_gate.specs.Events.{gone, next}
use Rattle.iv_desk.specs.Desks.{IsBehind}
use Rattle.iv_desk.specs.Front.{left}
use Rattle.iv_desk.proofs.OneNumber.{dead-next}
use Rattle.iv_desk.proofs.StatesAfterStep.{IsBehind-set}
use Rattle.iv_desk.proofs.DeskStates.{IsBehind-IsDesk, IsDesk-IsBehind}
use Rattle.iv_desk.proofs.desk.Desk.leave.Goals as goal

pub returns-in-Ok-clause-front : goal.returns-in-Ok-clause-front
returns-in-Ok-clause-front c = λ d b.
    let a = IsBehind-IsDesk d c.args.self.now b c.if-self.false in
    IsDesk-IsBehind (left c.args.at d) _
    (subst (IsBehind (left c.args.at d) c.left.new.self) (sym c.put_at.ensures)
    (IsBehind-set None tt d c.args.at (next d.gate (gone c.args.at)) c.args.self.now.gateway c.args.self.now.places.items a c.left.new.self
    (c.in-Ok.ensures.gate d.gate a.gate)
    (dead-next c.events_leave_their_marks.ensures.marks d.gate (gone c.args.at) tt a.alive ∙ a.alive))) c.if-self.false
