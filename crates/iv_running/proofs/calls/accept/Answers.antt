use Rattle.iv_running.proofs.RunsByCalls.{Serves-begun}
use Rattle.iv_running.proofs.calls.accept.Goals as goal

pub returns-clause-serves : goal.returns-clause-serves
returns-clause-serves c = Serves-begun c.args.at c.args.desk.now _ c.accept.ensures.begins
