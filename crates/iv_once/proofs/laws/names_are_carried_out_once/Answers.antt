use Rattle.iv_once.proofs.SoundRuns.{IsSound-run}
use Rattle.iv_once.proofs.laws.names_are_carried_out_once.Goals as goal

pub returns-clause-once : goal.returns-clause-once
returns-clause-once c = λ l epoch es. (IsSound-run l epoch es).once

pub returns-clause-acts : goal.returns-clause-acts
returns-clause-acts c = λ l epoch es. (IsSound-run l epoch es).acts
