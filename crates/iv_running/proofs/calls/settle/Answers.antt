use Rattle.std.proofs.Common.{refl}
use Rattle.iv_gate.specs.Events.{synced}
use Rattle.iv_desk.specs.Front.{by_event, offered, stays, syncs, then_happens}
use Rattle.iv_running.proofs.RunsByCalls.{Leads-called, Serves-failed}
use Rattle.iv_running.proofs.calls.settle.Goals as goal

pub returns-in-Ok-clause-keeps : goal.returns-in-Ok-clause-keeps
returns-in-Ok-clause-keeps g c = λ may is.
    Leads-called may c.events_leave_their_marks.ensures.marks offered c.calls_lead_from_runs_to_runs.ensures.offers synced tt (λ k. refl)
    c.args.desk.now _ (λ d s a. then_happens d (by_event synced d) stays a syncs (is d s a)) (λ d s e. let h = c.in-Ok.ensures.dead d s e in cc) c.in-Ok.ensures.front

pub returns-in-Err-clause-keeps : goal.returns-in-Err-clause-keeps
returns-in-Err-clause-keeps g c = λ may is. Serves-failed c.args.desk.now _ c.events_leave_their_marks.ensures.rests c.in-Err.ensures.fails may
