-- Ends of std, and the calls that were made of them.
use Rattle.std.specs.Prelude.{ℕ, ◌+◌, Bool, false, true, Option, Some, None}
use Rattle.std.specs.declared.snapshot.Snapshot.{Snapshot}

-- one more than the number before, 0 after none
abbrev pub one_more : Option (Snapshot (Snapshot ℕ)) → ℕ
one_more None = 0
one_more (Some before) = before.value.value + 1

-- an end, how many calls were made of it, whether one of them failed, and whether a flush came after the last write
pub record Watch (E : Type 0) : Type 0 where
  pub end : E
  pub calls : ℕ
  pub failed : Bool
  pub flushed : Bool

-- before its first call
abbrev pub unused : {E : Type 0} → E → Watch E
unused end = record { end = end; calls = 0; failed = false; flushed = true }
