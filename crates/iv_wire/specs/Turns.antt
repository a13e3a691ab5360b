-- When a run reads: each answer is flushed before more is read than the line that it answers.
use Rattle.std.specs.Prelude.{◌≡◌, ◌<◌, ℕ, true, List, Option, Some, None, ⊤}
use Rattle.std.specs.Io.KnownBytes.{Appends}
use Rattle.iv_machine.specs.State.{State}
use Rattle.iv_lines.specs.declared.lines.End.TheVariants.{Lines}
use Rattle.iv_lines.specs.Answer.{answer}
use Rattle.iv_lines.specs.Moments.{Moment}
use Rattle.iv_lines.specs.Reads.{IsCutShort}

-- at this moment k lines of the bytes, fewer than are asked for, are answered, and their answers are written and flushed; of
-- what follows them no whole line was read
pub record IsTurn (lines : ℕ) (before : State) (bytes : List ℕ) (taken : Option (List ℕ)) (m : Moment) : Type 0 where
  pub k : ℕ
  pub fewer : k < lines
  pub there : (answer k before bytes).end ≡ Lines
  pub written : Appends taken m.taken (answer k before bytes).text
  pub flushed : m.flushed ≡ true
  pub within : IsCutShort (Some (answer k before bytes).rest) m.left

-- if the reader tells the bytes that it has left
abbrev pub IsInTurn : ℕ → State → (given taken : Option (List ℕ)) → Moment → Type 0
IsInTurn lines before None taken m = ⊤
IsInTurn lines before (Some bytes) taken m = IsTurn lines before bytes taken m
