use Rattle.iv_gate.proofs.SoundRuns.{IsAnswered-Runs}
use Rattle.iv_gate.proofs.laws.clients_are_answered.Goals as goal

pub returns : goal.returns
returns c = IsAnswered-Runs
