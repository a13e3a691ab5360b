use Rattle.std.proofs.Common.{◌≤◌}
use Rattle.iv_journal.proofs.RecordEnds.{IsOn}
use Rattle.iv_journal.proofs.reading.read_journal.Given as goal

abbrev pub invariant-loop : goal.invariant-loop
invariant-loop l = record { on : IsOn l.bytes l.lines.items l.rest l.at l.kept; steps : l.counter ≤ l.at.length }
