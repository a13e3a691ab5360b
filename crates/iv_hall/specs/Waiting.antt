-- How many bytes wait for the journal, and what is counted of them.
use Rattle.std.specs.Prelude.{ℕ, ◌+◌, ◌-◌, ◌<◌, ◌≤◌, ◌^◌, [], ◌∷◌, length, Option}
use Rattle.iv_rows.specs.Options.{if_some}
use Rattle.iv_clients.specs.Kept.{Kept, Places}

-- of one, if there is one
abbrev pub bytes_of : Option Kept → ℕ
bytes_of x = if_some x 0 (λ (k : Kept). length k.unsynced)

-- of all clients
abbrev pub bytes_waiting : Places → ℕ
bytes_waiting [] = 0
bytes_waiting (x ∷ xs) = bytes_of x + bytes_waiting xs

-- as many are no more than were counted; of the greatest number nothing is said
abbrev pub AreCounted : (bytes counted : ℕ) → Type 0
AreCounted bytes counted = counted < 2 ^ 64 - 1 → bytes ≤ counted

-- what is added to some bytes is added to what was counted
abbrev pub CountsOn : (bytes counted bytes' counted' : ℕ) → Type 0
CountsOn bytes counted bytes' counted' = (others : ℕ) → AreCounted (others + bytes) counted → AreCounted (others + bytes') counted'
