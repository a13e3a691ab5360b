use Rattle.std.proofs.Common.{◌≡◌, ℕ, ◌<◌, false, length}
use Rattle.iv_roles.specs.Rows.{flag}
use Rattle.iv_roles.proofs.memberships.clear.Given as goal

abbrev pub invariant-loop-place : goal.invariant-loop-place
invariant-loop-place l = ((a b : ℕ) → a < l.place → flag l.rows a b ≡ false) × (length l.rows ≡ length l.fn.rows)
