-- The texts that a table may hold.
use Rattle.std.specs.Prelude.{ℕ, ◌==◌, ◌&&◌, Bool, true, not, List, length, nat_le}
use Rattle.std.specs.List.{list_all, list_any}
use Rattle.iv_rows.specs.Cell.{Cell, num, text, flag}

-- at most 1,024 bytes, and no U+0000
abbrev pub is_well_text : List ℕ → Bool
is_well_text t = nat_le (length t) 1024 && not (list_any (λ b. b == 0) t)

abbrev pub is_well_cell : Cell → Bool
is_well_cell (num n) = true
is_well_cell (text t) = is_well_text t
is_well_cell (flag b) = true

-- each text of the row is one that a table may hold
abbrev pub is_well : List Cell → Bool
is_well row = list_all is_well_cell row
