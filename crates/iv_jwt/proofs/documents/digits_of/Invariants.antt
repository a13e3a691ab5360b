use Rattle.std.proofs.Common.{◌≡◌, ◌≤◌, drop}
use Rattle.iv_jwt.specs.Documents.{digits_from, most_seconds}
use Rattle.iv_jwt.proofs.documents.digits_of.Given as goal

abbrev pub invariant-loop-byte : goal.invariant-loop-byte
invariant-loop-byte l = (l.seconds ≤ most_seconds) × (digits_from l.seconds (drop l.byte-index l.text) ≡ digits_from 0 l.text)
