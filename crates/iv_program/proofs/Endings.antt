-- The endings of a run from the start, as those of a replay.
use Rattle.std.proofs.Common.{◌≡◌, ◌≤◌, ℕ, true, List, [], Option, Some, None, Err, subst, refl, sym, arith, append-nil}
use Rattle.std.specs.Io.KnownBytes.{Appends}
use Rattle.iv_machine.specs.State.{start, start_frame}
use Rattle.iv_engine.specs.Engine.{Engine}
use Rattle.iv_wire.specs.Endings.{Run, IsAnswered}
use Rattle.iv_lines.specs.declared.lines.RunFault.{RunFault}
use Rattle.iv_lines.specs.declared.lines.RunFault.TheVariants as run

abbrev ran : ℕ → Option (List ℕ) → Option (List ℕ) → Option (List ℕ) → Option (List ℕ) → Engine → Run
ran lines given left taken written now = record { lines = lines; given = given; left = left; taken = taken; written = written; now = now }

pub IsAnswered-Err : (cap : ℕ) (f g : RunFault) (lines : ℕ) (given left taken written : Option (List ℕ)) (now : Engine) → f ≡ g → IsAnswered (start cap) (ran lines given left taken written now) (Err f) → (seen : Engine) × IsAnswered (start cap) (ran lines given left taken written seen) (Err g)
IsAnswered-Err cap f g lines given left taken written now e h = let P : RunFault → Type 0 = λ k. IsAnswered (start cap) (ran lines given left taken written now) (Err k) in (now, subst P e h)

nothing_more : (old : Option (List ℕ)) → Appends old old []
nothing_more None = tt
nothing_more (Some xs) = sym (append-nil xs)

-- no engine was made: no line was answered
pub IsAnswered-Memory_at_start : (cap lines : ℕ) (given left taken : Option (List ℕ)) → 1 ≤ lines → (now : Engine) × IsAnswered (start cap) (ran lines given left taken taken now) (Err run.Memory)
IsAnswered-Memory_at_start cap lines None left taken h = (record { frame = start_frame cap; tables = []; rounds = []; failed = true }, tt)
IsAnswered-Memory_at_start cap lines (Some bs) left taken h = (record { frame = start_frame cap; tables = []; rounds = []; failed = true }, (0, omega arith, (refl, nothing_more taken)))
