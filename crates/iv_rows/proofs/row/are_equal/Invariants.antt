use Rattle.std.proofs.Common.{◌≡◌, drop}
use Rattle.iv_rows.specs.Order.{row_eq}
use Rattle.iv_rows.specs.View.{cells_of}
use Rattle.iv_rows.proofs.row.are_equal.Given as goal

abbrev pub invariant-loop-place : goal.invariant-loop-place
invariant-loop-place l = row_eq (cells_of l.left) (cells_of l.right) ≡ row_eq (cells_of (drop l.place l.left)) (cells_of (drop l.place l.right))
