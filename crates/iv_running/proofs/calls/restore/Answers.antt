use Rattle.iv_running.proofs.RunsByCalls.{IsBack-IsRestored, IsRunning-IsBack}
use Rattle.iv_running.proofs.calls.restore.Goals as goal

pub returns-in-Ok-clause-runs : goal.returns-in-Ok-clause-runs
returns-in-Ok-clause-runs c = λ cap tokens head new. IsRunning-IsBack c.calls_lead_from_runs_to_runs.ensures.restores cap tokens head c.args.journal.now _
    (IsBack-IsRestored cap tokens head c.args.journal.now c.args.desk.now _ new c.in-Ok.ensures.restored)

pub returns-in-Ok-clause-back : goal.returns-in-Ok-clause-back
returns-in-Ok-clause-back c = λ cap tokens head new. IsBack-IsRestored cap tokens head c.args.journal.now c.args.desk.now _ new c.in-Ok.ensures.restored
