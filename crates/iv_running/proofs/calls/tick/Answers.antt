use Rattle.iv_gate.specs.Events.{ticked}
use Rattle.std.proofs.Common.{refl}
use Rattle.iv_desk.specs.Front.{by_event, stays, then_happens, ticks}
use Rattle.iv_running.proofs.RunsByCalls.{LeadsBy-done, Serves-failed}
use Rattle.iv_running.proofs.calls.tick.Goals as goal

pub returns-in-Ok-clause-passes : goal.returns-in-Ok-clause-passes
returns-in-Ok-clause-passes c = λ may is. LeadsBy-done may c.args.desk.now _ (by_event ticked) (λ d s e. let h = c.in-Ok.ensures.dead d s e in cc)
    (λ d a. then_happens d (by_event ticked d) stays a ticks (is d ticked refl)) c.in-Ok.ensures.front

pub returns-in-Err-clause-passes : goal.returns-in-Err-clause-passes
returns-in-Err-clause-passes c = λ may is. Serves-failed c.args.desk.now _ c.events_leave_their_marks.ensures.rests c.in-Err.ensures.fails may
