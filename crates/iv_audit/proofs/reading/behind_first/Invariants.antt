use Rattle.std.proofs.Common.{◌≡◌, drop}
use Rattle.iv_audit.specs.Reading.{behind_first}
use Rattle.iv_audit.proofs.reading.behind_first.Given as goal

abbrev pub invariant-loop-at : goal.invariant-loop-at
invariant-loop-at l = behind_first l.byte (drop l.at l.bytes) ≡ behind_first l.byte l.bytes
