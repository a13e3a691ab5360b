-- Which grants are held, and which a change names.
use Rattle.std.specs.Prelude.{◌≡◌, ℕ, ◌==◌, ◌&&◌, Bool, true, false, not, List}
use Rattle.std.specs.List.{list_any}
use Rattle.iv_algebra.specs.Rows.{Cells}
use Rattle.iv_access.specs.declared.privilege.Privilege.{Privilege}
use Rattle.iv_access.specs.declared.policy.Check.{Check}
use Rattle.iv_access.specs.Rights.{Grantee, Public, Role, Grant, Policy, Rights}
use Rattle.iv_roles.specs.Memberships.{Reaches, reaches}
use Rattle.iv_roles.specs.Roles.{is_admin}
use Rattle.iv_access.specs.Privileges.{privilege_eq}
use Rattle.iv_access.specs.Policies.{applies, permits, forbids}
use Rattle.iv_access.specs.Changing.{grantee_eq, grant_eq}

abbrev pub is_among : List Grant → Grant → Bool
is_among gs g = list_any (grant_eq g) gs

abbrev pub grant_to : Grantee → Privilege → ℕ → Grant
grant_to to p rel = record { grantee = to; privilege = p; rel = rel }

-- how a role comes to a privilege: as `admin`, by a grant to all roles, or by one to a role that it reaches, as itself
pub data HasBy : Rights → ℕ → Privilege → ℕ → Type 0 where
  as_admin : (r : Rights) (role : ℕ) (p : Privilege) (rel : ℕ) → is_admin role ≡ true → HasBy r role p rel
  by_all : (r : Rights) (role : ℕ) (p : Privilege) (rel : ℕ) → is_among r.grants (grant_to Public p rel) ≡ true → HasBy r role p rel
  by_role : (r : Rights) (role other : ℕ) (p : Privilege) (rel : ℕ) → Reaches r.members role other
      → is_among r.grants (grant_to (Role other) p rel) ≡ true → HasBy r role p rel

-- some role that it reaches was granted the privilege
pub record IsInherited (r : Rights) (role : ℕ) (p : Privilege) (rel : ℕ) : Type 0 where
  pub other : ℕ
  pub reached : reaches r.members role other ≡ true
  pub granted : is_among r.grants (grant_to (Role other) p rel) ≡ true

-- no other role that it reaches was
abbrev pub IsNotInherited : Rights → ℕ → Privilege → ℕ → Type 0
IsNotInherited r role p rel = (other : ℕ) → (role == other) ≡ false → reaches r.members role other ≡ true → is_among r.grants (grant_to (Role other) p rel) ≡ false

-- one of the privileges on the relation, to the grantee
abbrev pub is_named_by : ℕ → List Privilege → Grantee → Grant → Bool
is_named_by rel ps to g = g.rel == rel && (list_any (privilege_eq g.privilege) ps && grantee_eq g.grantee to)

-- some permissive policy that applies passes the row, and no restrictive one that applies fails it
abbrev pub is_let_through : Rights → ℕ → Check → Cells → List Policy → Bool
is_let_through r role test row ps = list_any (permits r role test row) ps && not (list_any (forbids r role test row) ps)

-- a permissive policy that applies, whatever it says of a row
abbrev pub may_permit : Rights → ℕ → Check → Policy → Bool
may_permit r role test p = not p.restrictive && applies r role test p
