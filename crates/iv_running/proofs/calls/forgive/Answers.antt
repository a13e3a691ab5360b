use Rattle.iv_running.proofs.RunsByCalls.{PassesTime-forgave}
use Rattle.iv_running.proofs.calls.forgive.Goals as goal

pub returns-clause-passes : goal.returns-clause-passes
returns-clause-passes c = PassesTime-forgave c.args.desk.now _ c.events_leave_their_marks.ensures.rests c.forgive.ensures
