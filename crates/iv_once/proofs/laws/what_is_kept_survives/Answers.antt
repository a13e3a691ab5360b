use Rattle.iv_once.specs.Runs.{after, start}
use Rattle.iv_once.proofs.SoundRuns.{IsSound-run}
use Rattle.iv_once.proofs.Places.{StaysReached-after}
use Rattle.iv_once.proofs.FirstRecord.{IsReadBack-AreKept}
use Rattle.iv_once.proofs.NamesOnce.{AreKept-IsSound}
use Rattle.iv_once.proofs.laws.what_is_kept_survives.Goals as goal

pub returns-clause-kept : goal.returns-clause-kept
returns-clause-kept c = λ l epoch es. AreKept-IsSound l (after l (start epoch) es) (IsSound-run l epoch es)

pub returns-clause-reached : goal.returns-clause-reached
returns-clause-reached c = λ l epoch es. StaysReached-after l epoch es

pub returns-clause-read : goal.returns-clause-read
returns-clause-read c =
    λ l epoch es holder k. let d = after l (start epoch) es in IsReadBack-AreKept l d holder k (AreKept-IsSound l d (IsSound-run l epoch es))
