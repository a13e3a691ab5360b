use Rattle.iv_once.specs.Runs.{after, start}
use Rattle.iv_once.proofs.SoundRuns.{AreAlike-IsSound, AreRemembered-IsSound, IsSound-run}
use Rattle.iv_once.proofs.laws.repetitions_are_told_the_same.Goals as goal

pub returns-clause-kept : goal.returns-clause-kept
returns-clause-kept c = λ l epoch es. (IsSound-run l epoch es).told

pub returns-clause-alike : goal.returns-clause-alike
returns-clause-alike c = λ l epoch es. AreAlike-IsSound l (after l (start epoch) es) (IsSound-run l epoch es)

pub returns-clause-remembered : goal.returns-clause-remembered
returns-clause-remembered c = λ l epoch es. AreRemembered-IsSound l (after l (start epoch) es) (IsSound-run l epoch es)
