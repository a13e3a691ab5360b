-- Rows of numbers, with and without a key.
use Rattle.std.specs.Prelude.{ℤ, Bool, cond, List, [], ◌∷◌, map}
use Rattle.iv_rows.specs.Cell.{Cell, num, text}
use Rattle.iv_algebra.specs.Rows.{Cells}

-- the text k
abbrev pub key : Cell
key = text (107 ∷ [])

abbrev pub cells : Bool → List ℤ → Cells
cells keyed numbers = cond keyed (key ∷ map num numbers) (map num numbers)
