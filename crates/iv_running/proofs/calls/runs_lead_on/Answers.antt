use Rattle.iv_running.proofs.RunsByCalls.{IsRunning-Leads}
use Rattle.iv_running.proofs.calls.runs_lead_on.Goals as goal

pub returns : goal.returns
returns c = IsRunning-Leads c.calls_lead_from_runs_to_runs.ensures.runs
