use Rattle.std.proofs.Common.{◌≡◌, ◌++◌, map, take}
use Rattle.iv_rows.specs.Cell.{num}
use Rattle.iv_rows.specs.View.{cells_of}
use Rattle.tests_circuits.proofs.sets.push_numbers.Given as goal

abbrev pub invariant-loop-number : goal.invariant-loop-number
invariant-loop-number l = cells_of l.values.items ≡ cells_of l.fn.values.items ++ map num (take l.number-index l.numbers)
