use Rattle.iv_audit.proofs.PlainLines.{IsReadTo}
use Rattle.iv_audit.proofs.reading.read_plain.Given as goal

abbrev pub invariant-loop-at : goal.invariant-loop-at
invariant-loop-at l = IsReadTo l.bytes l.lines.items l.length l.at
