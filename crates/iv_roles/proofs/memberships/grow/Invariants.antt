use Rattle.std.proofs.Common.{◌≡◌, ℕ, length}
use Rattle.iv_roles.specs.Rows.{leads}
use Rattle.iv_roles.proofs.memberships.grow.Given as goal

abbrev pub invariant-loop-place : goal.invariant-loop-place
invariant-loop-place l = ((a b : ℕ) → leads l.rows.items a b ≡ leads l.fn.rows.items a b) × (length l.rows.items ≡ l.place)
