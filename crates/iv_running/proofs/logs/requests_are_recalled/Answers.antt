use Rattle.iv_running.proofs.Recalled.{recalls_requests}
use Rattle.iv_running.proofs.logs.requests_are_recalled.Goals as goal

pub returns : goal.returns
returns c = recalls_requests
