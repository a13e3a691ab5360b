use Rattle.iv_running.specs.Running.{Serves}
use Rattle.iv_server.proofs.server.Server.read_desk.Given as goal

abbrev pub invariant-reads : goal.invariant-reads
invariant-reads l = Serves l.initial.desk l.desk
