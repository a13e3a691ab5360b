-- Which roles a role reaches by memberships (PostgreSQL 16, Role Membership).
use Rattle.std.specs.Prelude.{◌≡◌, ℕ, zero, suc, ◌==◌, ◌&&◌, ◌||◌, Bool, true, not, if◌then◌else◌, List, [], ◌∷◌, ◌++◌}
use Rattle.std.specs.List.{list_any, filter}

-- the member has what the role has
pub record Membership : Type 0 where
  pub role : ℕ
  pub member : ℕ

abbrev pub membership_eq : Membership → Membership → Bool
membership_eq a b = a.role == b.role && a.member == b.member

abbrev pub member_of : (role member : ℕ) → Membership
member_of role member = record { role = role; member = member }

-- it was granted directly
abbrev pub is_direct : List Membership → Membership → Bool
is_direct ms m = list_any (membership_eq m) ms

-- a role reaches itself, and each role to which a chain of direct memberships leads from it
pub data Reaches : List Membership → (role other : ℕ) → Type 0 where
  itself : (ms : List Membership) (role : ℕ) → Reaches ms role role
  through : (ms : List Membership) (role next other : ℕ) → is_direct ms (member_of next role) ≡ true → Reaches ms next other → Reaches ms role other

-- with one membership more, what reaches its member also reaches what its role reaches
abbrev pub further : (ℕ → ℕ → Bool) → Membership → (role other : ℕ) → Bool
further before m role other = before role other || (before role m.member && before m.role other)

abbrev pub reaches_by : (ℕ → ℕ → Bool) → List Membership → (role other : ℕ) → Bool
reaches_by before [] role other = before role other
reaches_by before (m ∷ ms) role other = reaches_by (further before m) ms role other

-- the role reaches the other
abbrev pub reaches : List Membership → (role other : ℕ) → Bool
reaches = reaches_by (λ role other. role == other)

-- a chain of n memberships: each of n roles has the next one as its member
abbrev pub chain_of : ℕ → List Membership
chain_of zero = []
chain_of (suc n) = chain_of n ++ member_of n (suc n) ∷ []

-- ---- how memberships change

-- one that is held is not added again
abbrev pub with_membership : Membership → List Membership → List Membership
with_membership m ms = if is_direct ms m then ms else ms ++ m ∷ []

abbrev pub without_membership : Membership → List Membership → List Membership
without_membership m ms = filter (λ n. not (membership_eq m n)) ms
