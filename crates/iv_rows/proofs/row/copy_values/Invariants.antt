use Rattle.std.proofs.Common.{◌≡◌, ◌++◌, take}
use Rattle.iv_rows.specs.View.{cells_of}
use Rattle.iv_rows.proofs.row.copy_values.Given as goal

abbrev pub invariant-loop-value : goal.invariant-loop-value
invariant-loop-value l = cells_of l.copies.items ≡ cells_of l.fn.copies.items ++ cells_of (take l.value-index l.values)
