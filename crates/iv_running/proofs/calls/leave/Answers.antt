use Rattle.std.proofs.Common.{refl}
use Rattle.iv_desk.specs.Front.{leaves, left, stays, then_happens}
use Rattle.iv_running.proofs.RunsByCalls.{Serves-done, Serves-failed}
use Rattle.iv_running.proofs.calls.leave.Goals as goal

pub returns-in-Ok-clause-serves : goal.returns-in-Ok-clause-serves
returns-in-Ok-clause-serves c = Serves-done c.args.desk.now _ (left c.args.at) (λ d s e. let h = c.in-Ok.ensures.dead d s e in cc)
    (λ may d a. then_happens d (left c.args.at d) stays a (leaves c.args.at) refl) c.in-Ok.ensures.front

pub returns-in-Err-clause-serves : goal.returns-in-Err-clause-serves
returns-in-Err-clause-serves c = Serves-failed c.args.desk.now _ c.events_leave_their_marks.ensures.rests c.in-Err.ensures.fails
