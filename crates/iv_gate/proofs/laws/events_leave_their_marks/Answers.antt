use Rattle.iv_gate.proofs.EventLaws.{LeavesMarks-IsWell}
use Rattle.iv_gate.proofs.EventMarks.{next-dead}
use Rattle.iv_gate.proofs.laws.events_leave_their_marks.Goals as goal

pub returns-clause-rests : goal.returns-clause-rests
returns-clause-rests c = next-dead

pub returns-clause-marks : goal.returns-clause-marks
returns-clause-marks c = LeavesMarks-IsWell c.refusals_are_found.ensures
