use Rattle.iv_peer.specs.Socket.{closed}
use Rattle.iv_desk.specs.Front.{at_socket, stays, then_closes}
use Rattle.iv_running.proofs.RunsByCalls.{Serves-done, Serves-failed}
use Rattle.iv_running.proofs.calls.close.Goals as goal

pub returns-in-Ok-clause-serves : goal.returns-in-Ok-clause-serves
returns-in-Ok-clause-serves c = Serves-done c.args.desk.now _ (at_socket c.args.at (closed c.args.code c.args.words.now)) (λ d s e. let h = c.in-Ok.ensures.dead d s e in cc)
    (λ may d a. then_closes d c.args.at c.args.code c.args.words.now stays a c.requires) c.in-Ok.ensures.front

pub returns-in-Err-clause-serves : goal.returns-in-Err-clause-serves
returns-in-Err-clause-serves c = Serves-failed c.args.desk.now _ c.events_leave_their_marks.ensures.rests c.in-Err.ensures.fails
