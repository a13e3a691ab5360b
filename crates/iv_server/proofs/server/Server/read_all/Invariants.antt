use Rattle.iv_running.specs.Running.{Serves}
use Rattle.iv_server.proofs.server.Server.read_all.Given as goal

abbrev pub invariant-loop-at : goal.invariant-loop-at
invariant-loop-at l = Serves l.initial.desk l.desk
