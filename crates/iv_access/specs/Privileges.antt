-- Who has which privilege, and who owns what (PostgreSQL 16, Privileges).
-- Read `has` and `owns`. A role has what each role has that it reaches by memberships, itself among them (`acts_as`); `admin` has all. `role`, `other` and
-- `rel` are numbers, `p` is a privilege, or one with its relation, and `g` a grant.
use Rattle.std.specs.Prelude.{ℕ, ◌==◌, ◌&&◌, ◌||◌, Bool, true, false, if◌then◌else◌, List, [], ◌∷◌, Option, Some, None, unwrap_or}
use Rattle.std.specs.Prelude.{position, bytes_eq, slice_get}
use Rattle.std.specs.List.{list_any}
use Rattle.iv_rows.specs.declared.schema.RelId.{RelId}
use Rattle.iv_access.specs.declared.privilege.Privilege.{Privilege}
use Rattle.iv_access.specs.declared.privilege.Privilege.TheVariants.{Select, Insert, Update, Delete}
use Rattle.iv_access.specs.Rights.{Name, Grantee, Public, Role, Guard, Rights}
use Rattle.iv_roles.specs.Memberships.{reaches}
use Rattle.iv_roles.specs.Roles.{is_admin}

-- the number of the role of a name
abbrev pub role_of : Rights → Name → Option ℕ
role_of r name = position (bytes_eq name) r.roles

-- the name of a role, which policies see as the user
abbrev pub role_name : Rights → ℕ → Name
role_name r role = unwrap_or (slice_get r.roles role) []

-- the role has what the other has: it is the other, or a member of it, directly or through others
abbrev pub acts_as : Rights → (role other : ℕ) → Bool
acts_as r role other = reaches r.members role other

-- what goes to the grantee goes to the role
abbrev pub is_for : Rights → ℕ → Grantee → Bool
is_for r role Public = true
is_for r role (Role other) = acts_as r role other

abbrev pub privilege_eq : Privilege → Privilege → Bool
privilege_eq Select Select = true
privilege_eq Insert Insert = true
privilege_eq Update Update = true
privilege_eq Delete Delete = true
privilege_eq _ _ = false

-- the role is `admin`, or the privilege was granted to all, to it, or to a role that it is a member of
abbrev pub has : Rights → ℕ → Privilege → ℕ → Bool
has r role p rel = is_admin role || list_any (λ g. rel == g.rel && (privilege_eq p g.privilege && is_for r role g.grantee)) r.grants

-- the first of the privileges that the role has not, and its relation
abbrev pub first_missing : Rights → ℕ → List (Privilege × ℕ) → Option (Privilege × ℕ)
first_missing r role [] = None
first_missing r role (p ∷ ps) = if has r role p.0 p.1 then first_missing r role ps else Some p

-- what reading a relation takes
abbrev pub select_from : RelId → Privilege × ℕ
select_from rel = (Select, rel.0)

abbrev pub is_owner : Rights → ℕ → Option Guard → Bool
is_owner r role None = false
is_owner r role (Some g) = acts_as r role g.owner

-- the right to grant, and to switch row security: the owner, its members and `admin`
abbrev pub owns : Rights → (role rel : ℕ) → Bool
owns r role rel = is_admin role || is_owner r role (slice_get r.guards rel)
