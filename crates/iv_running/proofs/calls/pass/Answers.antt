use Rattle.iv_running.proofs.RunsByCalls.{Serves-passed}
use Rattle.iv_running.proofs.calls.pass.Goals as goal

pub returns-clause-serves : goal.returns-clause-serves
returns-clause-serves c = Serves-passed c.args.at c.args.count c.args.desk.now _ c.sent.ensures
