use Rattle.std.proofs.Common.{refl}
use Rattle.iv_gate.specs.Events.{forgave}
use Rattle.iv_desk.proofs.DeskStates.{IsDesk-by_event, IsDesk-rests}
use Rattle.iv_desk.proofs.desk.Desk.forgive.Goals as goal

pub returns-then-self : goal.returns-then-self
returns-then-self c = λ d b. IsDesk-rests c.events_leave_their_marks.ensures.rests forgave d c.args.self.now b c.if-self.true

pub returns : goal.returns
returns c = IsDesk-by_event c.events_leave_their_marks.ensures.marks forgave tt (λ g. refl) c.forgive.new.self c.args.self.now c.if-self.false c.forgive.ensures
