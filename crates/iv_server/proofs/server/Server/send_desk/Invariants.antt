use Rattle.iv_running.specs.Running.{Serves}
use Rattle.iv_server.proofs.server.Server.send_desk.Given as goal

abbrev pub invariant-writes : goal.invariant-writes
invariant-writes l = Serves l.initial.desk l.desk
