use Rattle.std.proofs.Common.{◌≡◌, ℕ, length, take}
use Rattle.iv_roles.specs.Memberships.{reaches}
use Rattle.iv_roles.specs.Rows.{leads}
use Rattle.iv_roles.proofs.memberships.follow.Given as goal

abbrev pub invariant-loop-membership : goal.invariant-loop-membership
invariant-loop-membership l = ((a b : ℕ) → leads l.rows a b ≡ reaches (take l.membership-index l.direct) a b) × (length l.rows ≡ length l.fn.rows)
