use Rattle.std.proofs.Common.{◌≡◌, drop}
use Rattle.iv_rows.specs.Columns.{accepts, kinds_of}
use Rattle.iv_rows.specs.View.{cells_of}
use Rattle.iv_rows.proofs.schema.are_of.Given as goal

abbrev pub invariant-loop-place : goal.invariant-loop-place
invariant-loop-place l = accepts (kinds_of l.columns) (cells_of l.values) ≡ accepts (kinds_of (drop l.place l.columns)) (cells_of (drop l.place l.values))
