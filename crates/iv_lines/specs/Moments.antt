-- When a source is read: what it has left then, and what is written.
use Rattle.std.specs.Prelude.{◌≡◌, ℕ, Bool, List, ◌++◌, Option}
use Rattle.std.specs.List.{AllByRecursion}
use Rattle.std.specs.Io.KnownBytes.{Keeps}
use Rattle.iv_lines.specs.Reads.{IsCutShort}

-- a moment at which a source is read: the bytes that it has left, those that the writer has taken, and whether all of these
-- are flushed
pub record Moment : Type 0 where
  pub left : Option (List ℕ)
  pub taken : Option (List ℕ)
  pub flushed : Bool

-- the source was read, and tells so: each time at such a moment
pub record ReadsAt (P : Moment → Type 0) (old new : List Moment) : Type 0 where
  pub more : List Moment
  pub behind : new ≡ old ++ more
  pub each : AllByRecursion P more

-- these bytes are left, if they are known, and these are taken
abbrev pub IsMoment : (left taken : Option (List ℕ)) → Bool → Moment → Type 0
IsMoment left taken flushed m = Keeps left m.left × (m.taken ≡ taken) × (m.flushed ≡ flushed)

-- of the bytes the beginning of one line was read, and no whole line; these are taken
abbrev pub IsWithinLine : (bytes taken : Option (List ℕ)) → Bool → Moment → Type 0
IsWithinLine bytes taken flushed m = IsCutShort bytes m.left × (m.taken ≡ taken) × (m.flushed ≡ flushed)
