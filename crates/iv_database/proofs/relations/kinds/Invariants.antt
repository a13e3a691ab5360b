use Rattle.std.proofs.Common.{◌≡◌, take}
use Rattle.iv_rows.specs.Columns.{kinds_of}
use Rattle.iv_database.proofs.relations.kinds.Given as goal

abbrev pub invariant-loop-column : goal.invariant-loop-column
invariant-loop-column l = l.kinds.items ≡ kinds_of (take l.column-index l.columns)
