use Rattle.std.proofs.Common.{refl}
use Rattle.iv_gate.specs.Events.{known}
use Rattle.iv_desk.specs.Front.{by_event, dismissed, knows, stays, then_happens}
use Rattle.iv_running.proofs.RunsByCalls.{Leads-called, Serves-failed}
use Rattle.iv_running.proofs.calls.know.Goals as goal

pub returns-in-Ok-clause-serves : goal.returns-in-Ok-clause-serves
returns-in-Ok-clause-serves c = λ may. let e = known c.args.tokens.items in
    Leads-called may c.events_leave_their_marks.ensures.marks dismissed c.calls_lead_from_runs_to_runs.ensures.dismisses e tt (λ k. refl)
    c.args.desk.now _ (λ d s a. then_happens d (by_event e d) stays a (knows c.args.tokens.items) refl) (λ d s e. let h = c.in-Ok.ensures.dead d s e in cc) c.in-Ok.ensures.front

pub returns-in-Err-clause-serves : goal.returns-in-Err-clause-serves
returns-in-Err-clause-serves c = Serves-failed c.args.desk.now _ c.events_leave_their_marks.ensures.rests c.in-Err.ensures.fails
