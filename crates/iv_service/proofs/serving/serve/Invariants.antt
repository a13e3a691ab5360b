use Rattle.iv_running.specs.Running.{Leads}
use Rattle.iv_service.proofs.serving.serve.Given as goal

abbrev pub invariant-rounds : goal.invariant-rounds
invariant-rounds l = Leads l.initial.desk l.desk
