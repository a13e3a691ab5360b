use Rattle.std.proofs.Common.{refl}
use Rattle.iv_peer.specs.Socket.{took}
use Rattle.iv_desk.specs.Front.{at_socket, stays, takes, then_happens}
use Rattle.iv_running.proofs.RunsByCalls.{Serves-failed, Serves-heard}
use Rattle.iv_running.proofs.calls.hear.Goals as goal

pub returns-in-Ok-clause-serves : goal.returns-in-Ok-clause-serves
returns-in-Ok-clause-serves c = Serves-heard c.calls_lead_from_runs_to_runs.ensures.hears c.args.at c.in-Ok.hearing c.args.desk.now _ (at_socket c.args.at (took c.args.bytes.now))
    (λ d s e. let h = c.in-Ok.ensures.dead d s e in cc)
    (λ may d a. then_happens d (at_socket c.args.at (took c.args.bytes.now) d) stays a (takes c.args.at c.args.bytes.now) refl) (λ d. refl) c.in-Ok.ensures.heard

pub returns-in-Err-clause-serves : goal.returns-in-Err-clause-serves
returns-in-Err-clause-serves c = Serves-failed c.args.desk.now _ c.events_leave_their_marks.ensures.rests c.in-Err.ensures.fails
