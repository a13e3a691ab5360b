use Rattle.iv_server.proofs.ClosedSockets.{closed_are_over}
use Rattle.iv_server.proofs.laws.shut_sockets_are_over.Goals as goal

pub returns : goal.returns
returns c = closed_are_over
