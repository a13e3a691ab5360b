use Rattle.std.proofs.Common.{drop}
use Rattle.iv_records.proofs.RecordRest.{IsFilling}
use Rattle.iv_records.proofs.records.Entry.fill.Given as goal

abbrev pub invariant-loop-at : goal.invariant-loop-at
invariant-loop-at l = IsFilling l.self (drop l.at l.lines) l.fn.self l.fn.lines
