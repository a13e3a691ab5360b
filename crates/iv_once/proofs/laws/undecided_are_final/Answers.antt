use Rattle.iv_once.specs.Runs.{after, start}
use Rattle.iv_once.proofs.SoundRuns.{IsSound-run}
use Rattle.iv_once.proofs.NamesOnce.{AreKept-IsSound, HasReason-AreKept, IsSound-start}
use Rattle.iv_once.proofs.FinalAnswers.{AreFinal-IsSound}
use Rattle.iv_once.proofs.laws.undecided_are_final.Goals as goal

pub returns-clause-settled : goal.returns-clause-settled
returns-clause-settled c = λ l epoch es. AreFinal-IsSound l epoch es (IsSound-start l epoch) (IsSound-run l epoch es)

pub returns-clause-reasons : goal.returns-clause-reasons
returns-clause-reasons c = λ l epoch es a. let d = after l (start epoch) es in HasReason-AreKept l d a (AreKept-IsSound l d (IsSound-run l epoch es))
