-- The lines of a command: their order, and the rows of a change.
use Rattle.std.specs.Prelude.{◌≡◌, ◌≢◌, ◌⊎◌, ℕ, ◌<◌, List, [], ◌∷◌, pos, Option, Some, None}
use Rattle.std.specs.List.{All, AllByRecursion}
use Rattle.std.specs.List.Sorted.{IsStrictlySortedBy}
use Rattle.std.specs.Map.{keys_of}
use Rattle.iv_rows.specs.Cell.{Cell}
use Rattle.iv_rows.specs.Order.{row_cmp}
use Rattle.iv_zset.specs.Weights.{Weighed, weight_of}
use Rattle.iv_machine.specs.Act.{Line, reply, change, ended}
use Rattle.iv_machine.specs.Machine.{weight}
use Rattle.iv_machine.specs.State.{Subscription}

-- each row once, in rising order, with a weight that is not 0
pub record IsRising (rows : Weighed) : Type 0 where
  pub rising : IsStrictlySortedBy row_cmp (keys_of rows)
  pub nonzero : All (λ e. e.1 ≢ pos 0) rows

-- a change has some such rows, a last line perhaps none
abbrev pub HasChange : Line → Type 0
HasChange (reply n r) = Unit {0}
HasChange (change n k rows) = (rows ≢ []) × IsRising rows
HasChange (ended n k why rows) = IsRising rows

-- such rows have the weights after minus before
pub record IsDifference (before after : List (List Cell)) (rows : Weighed) : Type 0 where
  pub changes : IsRising rows
  pub weights : (q : List Cell) → weight_of rows q ≡ weight before after q

-- ---- the order of lines

-- the session and the number of the subscription that a line is for; none for a reply
abbrev pub is_for : Line → Option (ℕ × ℕ)
is_for (reply n r) = None
is_for (change n k rows) = Some (n, k)
is_for (ended n k why rows) = Some (n, k)

-- the line is not for subscription k
abbrev pub IsNotFor : ℕ → Line → Type 0
IsNotFor k (reply n r) = Unit {0}
IsNotFor k (change n j rows) = k ≢ j
IsNotFor k (ended n j why rows) = k ≢ j

-- the reply before all others, and these by session, then by number
abbrev pub Precedes : Option (ℕ × ℕ) → Option (ℕ × ℕ) → Type 0
Precedes o None = ⊥
Precedes None (Some b) = Unit {0}
Precedes (Some a) (Some b) = (a.0 < b.0) ⊎ ((a.0 ≡ b.0) × (a.1 < b.1))

-- each line is before all that follow
abbrev pub AreLinesInOrder : List Line → Type 0
AreLinesInOrder [] = Unit {0}
AreLinesInOrder (l ∷ ls) = AllByRecursion (λ m. Precedes (is_for l) (is_for m)) ls × AreLinesInOrder ls

abbrev pub place_of : Subscription → Option (ℕ × ℕ)
place_of e = Some (e.session, e.number)

-- each subscription is before all that follow
abbrev pub AreInOrder : List Subscription → Type 0
AreInOrder [] = Unit {0}
AreInOrder (e ∷ es) = AllByRecursion (λ f. Precedes (place_of e) (place_of f)) es × AreInOrder es
