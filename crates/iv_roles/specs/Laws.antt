-- Laws of memberships.
use Rattle.std.specs.Prelude.{◌≡◌, ℕ, ◌≤◌, List, nat_le}
use Rattle.std.specs.Bool.{Decides}
use Rattle.iv_roles.specs.Memberships.{Membership, Reaches, chain_of, reaches}

abbrev pub FollowsChains : Type 0
FollowsChains = (ms : List Membership) (role other : ℕ) → Decides (reaches ms role other) (Reaches ms role other)

-- along a chain each role reaches those before it, however many they are, and none after it
abbrev pub ReachAlongChains : Type 0
ReachAlongChains = (n role other : ℕ) → role ≤ n → reaches (chain_of n) role other ≡ nat_le other role

-- the roles that it reaches are the same if it reaches `role` as it did before
abbrev pub StaysUnless : List Membership → List Membership → ℕ → Type 0
StaysUnless before after role = (a : ℕ) → reaches after a role ≡ reaches before a role → (b : ℕ) → reaches after a b ≡ reaches before a b
