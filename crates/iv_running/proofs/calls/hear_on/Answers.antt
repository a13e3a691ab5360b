use Rattle.std.proofs.Common.{refl}
use Rattle.iv_desk.specs.Front.{stays}
use Rattle.iv_running.proofs.RunsByCalls.{Serves-failed, Serves-heard}
use Rattle.iv_running.proofs.calls.hear_on.Goals as goal

pub returns-in-Ok-clause-serves : goal.returns-in-Ok-clause-serves
returns-in-Ok-clause-serves c = Serves-heard c.calls_lead_from_runs_to_runs.ensures.hears c.args.at c.in-Ok.hearing c.args.desk.now _ (λ d. d)
    (λ d s e. let h = c.in-Ok.ensures.dead d s e in cc) (λ may d a. stays) (λ d. refl) c.in-Ok.ensures.heard

pub returns-in-Err-clause-serves : goal.returns-in-Err-clause-serves
returns-in-Err-clause-serves c = Serves-failed c.args.desk.now _ c.events_leave_their_marks.ensures.rests c.in-Err.ensures.fails
