-- Bytes cut into lines at their newlines.
use Rattle.std.specs.Prelude.{ℕ, zero, suc, ◌==◌, ◌||◌, Bool, List, [], ◌∷◌, ◌++◌, if◌then◌else◌}
use Rattle.std.specs.List.{list_all}

-- no byte is left; a line and the bytes after it; no newline in as many bytes as a line may have with it
pub data Cut : Type 0 where
  nothing : Cut
  whole : List ℕ → List ℕ → Cut
  endless : Cut

-- a rest without newline is a line
abbrev pub last_line : List ℕ → Cut
last_line [] = nothing
last_line (b ∷ bs) = whole (b ∷ bs) []

-- the line that begins so, which may have so many bytes more with its newline
unfoldable pub cut_from : ℕ → List ℕ → List ℕ → Cut
cut_from zero line bytes = endless
cut_from (suc room) line [] = last_line line
cut_from (suc room) line (b ∷ bytes) = if b == 10 then whole line bytes else cut_from room (line ++ b ∷ []) bytes

-- the bytes of the longest line, with its newline
abbrev pub line_room : ℕ
line_room = 65537

-- the first line of the bytes
abbrev pub cut : List ℕ → Cut
cut bytes = cut_from line_room [] bytes

-- spaces, tabs and carriage returns alone
abbrev pub is_blank_line : List ℕ → Bool
is_blank_line line = list_all (λ b. (b == 32) || ((b == 9) || (b == 13))) line
