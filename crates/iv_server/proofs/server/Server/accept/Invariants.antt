use Rattle.iv_running.specs.Running.{Serves}
use Rattle.iv_server.proofs.server.Server.accept.Given as goal

abbrev pub invariant-accepts : goal.invariant-accepts
invariant-accepts l = Serves l.initial.desk l.desk
