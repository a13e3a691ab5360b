-- What is read of the next line, and which fault a run has.
use Rattle.std.specs.Prelude.{◌≡◌, ◌≢◌, ◌<◌, ◌++◌, ℕ, Bool, true, false, List, All, length, Option, Some, None, ⊤, Result, Ok, Err}
use Rattle.iv_lines.specs.declared.lines.Next.{Next}
use Rattle.iv_lines.specs.declared.lines.Next.TheVariants.{Nothing, Line, Endless}
use Rattle.iv_lines.specs.declared.lines.RunFault.{RunFault}
use Rattle.iv_lines.specs.declared.lines.RunFault.TheVariants.{Read, Write, Memory, Failed}
use Rattle.iv_lines.specs.Cut.{Cut, nothing, whole, endless, cut, cut_from, line_room}

-- the cut that it stands for, if these bytes are left after it
abbrev pub cut_of : Next → List ℕ → Cut
cut_of Nothing left = nothing
cut_of (Line line) left = whole line.items left
cut_of Endless left = endless

-- if the bytes are known, the first cut of them, and what is left after it
abbrev pub IsCut : Option (List ℕ) → Next → Option (List ℕ) → Type 0
IsCut None next new = ⊤
IsCut (Some bytes) next None = ⊥
IsCut (Some bytes) next (Some left) = cut bytes ≡ cut_of next left

-- between the two is the beginning of one line, and no whole line
abbrev pub BeginsLine : List ℕ → List ℕ → Type 0
BeginsLine bytes left = (part : List ℕ) × (bytes ≡ part ++ left) × All (λ b. b ≢ 10) part × (length part < line_room)

abbrev pub IsCutShort : Option (List ℕ) → Option (List ℕ) → Type 0
IsCutShort None new = ⊤
IsCutShort (Some bytes) None = ⊥
IsCutShort (Some bytes) (Some left) = BeginsLine bytes left

-- a line has been begun: what the cut is from here is the cut of what there was
abbrev pub IsBegun : ℕ → List ℕ → Option (List ℕ) → Option (List ℕ) → Type 0
IsBegun room line None new = ⊤
IsBegun room line (Some bytes) None = ⊥
IsBegun room line (Some bytes) (Some left) = (cut_from room line left ≡ cut bytes) × (bytes ≡ line ++ left)

abbrev pub is_read : {A : Type 0} → Result A RunFault → Bool
is_read (Ok x) = false
is_read (Err Read) = true
is_read (Err Write) = false
is_read (Err Memory) = false
is_read (Err Failed) = false

abbrev pub is_write : {A : Type 0} → Result A RunFault → Bool
is_write (Ok x) = false
is_write (Err Read) = false
is_write (Err Write) = true
is_write (Err Memory) = false
is_write (Err Failed) = false

abbrev pub is_memory : {A : Type 0} → Result A RunFault → Bool
is_memory (Ok x) = false
is_memory (Err Read) = false
is_memory (Err Write) = false
is_memory (Err Memory) = true
is_memory (Err Failed) = false
