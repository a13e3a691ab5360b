use Rattle.std.proofs.Common.{drop}
use Rattle.iv_audit.proofs.JournalLines.{IsDone}
use Rattle.iv_audit.proofs.writing.push_records.Given as goal

abbrev pub invariant-loop-place : goal.invariant-loop-place
invariant-loop-place l = IsDone l.at l.shares l.left l.lines (drop l.place l.lines) l.place l.initial.chain l.chain l.initial.out.items l.out.items
