-- For contracts of the code: one more is counted.
use Rattle.std.specs.Prelude.{ℕ, ◌+◌, ◌-◌, ◌^◌, List, min, slice_index, slice_set}

-- one more at a place, if there is such a place; a count stops at the greatest number
abbrev pub one_more : ℕ → List ℕ → List ℕ
one_more at counts = slice_set counts at (min (slice_index counts at + 1) (2 ^ 64 - 1))
