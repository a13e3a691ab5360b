-- That the numbers of subscriptions are unique, and what the lines add up to.
use Rattle.std.specs.Prelude.{◌≡◌, ℕ, ◌==◌, ◌≤◌, false, List, [], ◌∷◌, pos}
use Rattle.std.specs.List.{list_any}
use Rattle.iv_rows.specs.Cell.{Cell}
use Rattle.iv_zset.specs.Limits.{copies}
use Rattle.iv_machine.specs.Act.{Command, Line}
use Rattle.iv_machine.specs.State.{State, Frame, Subscription, is_open_number, shown, start}
use Rattle.iv_machine.specs.Machine.{run, weight}
use Rattle.iv_machine.specs.Held.{held, closed}

-- no number comes twice
abbrev pub AreUnique : List Subscription → Type 0
AreUnique [] = Unit {0}
AreUnique (e ∷ es) = (list_any (λ f. e.number == f.number) es ≡ false) × AreUnique es

-- none is above the last number given
abbrev pub AreGiven : ℕ → List Subscription → Type 0
AreGiven last [] = Unit {0}
AreGiven last (e ∷ es) = (e.number ≤ last) × AreGiven last es

-- no two open subscriptions have one number, and none has one that was not given
pub record AreNumbersUnique (f : Frame) : Type 0 where
  pub unique : AreUnique f.subscriptions
  pub given : AreGiven f.last f.subscriptions

-- for each subscription that its reader did not close the lines add up to what it shows after the commands, minus what
-- it showed before
abbrev pub LinesAddUp : State → List Command → List Line → Type 0
LinesAddUp s cs lines = (k : ℕ) (q : List Cell) → list_any (λ j. k == j) (closed s cs) ≡ false
    → held k q lines ≡ weight (shown s k) (shown (run s cs).state k) q

-- the machine's lines do
abbrev pub AddsUp : State → List Command → Type 0
AddsUp s cs = LinesAddUp s cs (run s cs).lines

-- from the start they add up to what it shows
abbrev pub AddsUpToView : (cap : ℕ) → List Command → Type 0
AddsUpToView cap cs = let last = run (start cap) cs in
    (k : ℕ) (q : List Cell) → list_any (λ j. k == j) (closed (start cap) cs) ≡ false → held k q last.lines ≡ pos (copies q (shown last.state k))

-- the number was given, and no open subscription has it
pub record IsGone (f : Frame) (k : ℕ) : Type 0 where
  pub given : k ≤ f.last
  pub closed : is_open_number f k ≡ false
