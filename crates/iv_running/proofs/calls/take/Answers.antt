use Rattle.std.proofs.Common.{refl}
use Rattle.iv_gate.specs.Events.{arrived}
use Rattle.iv_desk.specs.Front.{arrives, by_event, stays, then_happens}
use Rattle.iv_running.specs.Running.{anything}
use Rattle.iv_running.proofs.RunsByCalls.{LeadsBy-done, Leads-failed}
use Rattle.iv_running.proofs.calls.take.Goals as goal

pub returns-in-Ok-clause-leads : goal.returns-in-Ok-clause-leads
returns-in-Ok-clause-leads c = LeadsBy-done anything c.args.desk.now _ (by_event (arrived c.args.step)) (λ d s e. let h = c.in-Ok.ensures.dead d s e in cc)
    (λ d a. then_happens d (by_event (arrived c.args.step) d) stays a (arrives c.args.step c.requires) refl) c.in-Ok.ensures.front

pub returns-in-Err-clause-leads : goal.returns-in-Err-clause-leads
returns-in-Err-clause-leads c = Leads-failed c.args.desk.now _ c.events_leave_their_marks.ensures.rests c.in-Err.ensures.fails
