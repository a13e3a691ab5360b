-- Laws of rights.
use Rattle.std.specs.Prelude.{◌≡◌, ◌≢◌, ℕ, ◌&&◌, ◌||◌, not, true, false, List, length, slice_get}
use Rattle.std.specs.Bool.{Decides}
use Rattle.std.specs.List.{AllPass, list_any}
use Rattle.iv_algebra.specs.Rows.{Cells}
use Rattle.iv_access.specs.declared.policy.Check.{Check}
use Rattle.iv_access.specs.declared.policy.Verdict.TheVariants.{NoPermissive, Restrictive}
use Rattle.iv_access.specs.declared.privilege.Privilege.{Privilege}
use Rattle.iv_roles.specs.Roles.{is_admin}
use Rattle.iv_roles.specs.Memberships.{Membership, Reaches, reaches}
use Rattle.iv_access.specs.Rights.{Grant, Grantee, Policy, Rights}
use Rattle.iv_access.specs.Privileges.{has}
use Rattle.iv_access.specs.Policies.{forbids, policies_of, is_exempt, is_pass, verdict}
use Rattle.iv_access.specs.Changing.{with_grants, without_grants, with_relation, with_policy}
use Rattle.iv_access.specs.Reached.{IsReached, Rise, IsFirstByName}
use Rattle.iv_access.specs.Given.{HasBy, grant_to, is_among, is_named_by, is_let_through, may_permit}

-- ---- grants

-- those are held that were held, and those that are named
abbrev pub GrantsGive : Type 0
GrantsGive =
    (r : Rights) (rel : ℕ) (ps : List Privilege) (to : Grantee) (g : Grant)
    → is_among (with_grants rel ps to r).grants g ≡ (is_among r.grants g || is_named_by rel ps to g)

-- those are held that were held, without those that are named
abbrev pub RevokesTake : Type 0
RevokesTake =
    (r : Rights) (rel : ℕ) (ps : List Privilege) (to : Grantee) (g : Grant)
    → is_among (without_grants rel ps to r).grants g ≡ (not (is_named_by rel ps to g) && is_among r.grants g)

abbrev pub HeldGrantsChangeNothing : Type 0
HeldGrantsChangeNothing =
    (r : Rights) (rel : ℕ) (ps : List Privilege) (to : Grantee) → AllPass (λ p. is_among r.grants (grant_to to p rel)) ps → with_grants rel ps to r ≡ r

-- as `admin`, by a grant to all roles, or by one to a role that it reaches, as itself
abbrev pub RolesHaveTheirOwn : Type 0
RolesHaveTheirOwn = (r : Rights) (role : ℕ) (p : Privilege) (rel : ℕ) → Decides (has r role p rel) (HasBy r role p rel)

abbrev pub OwnersHaveAll : Type 0
OwnersHaveAll = (r : Rights) (owner : ℕ) (p : Privilege) → has (with_relation owner r) owner p (length r.guards) ≡ true

-- ---- memberships

-- what a role holds its members hold
abbrev pub MembersHold : Type 0
MembersHold =
    (r : Rights) (role other : ℕ) (p : Privilege) (rel : ℕ) → Reaches r.members role other → is_admin other ≡ false → has r other p rel ≡ true → has r role p rel ≡ true

-- no two roles reach each other
abbrev pub NoLoops : Type 0
NoLoops = (r : Rights) → IsReached r → (role other : ℕ) → Reaches r.members role other → Reaches r.members other role → role ≡ other

-- the role reaches by the memberships what it reaches in the rights
abbrev pub ReachesAlike : Rights → List Membership → ℕ → Type 0
ReachesAlike r ms role = (other : ℕ) → reaches ms role other ≡ reaches r.members role other

-- memberships change nothing for a role that reaches what it reached
abbrev pub HasByReach : Type 0
HasByReach = (r : Rights) (ms : List Membership) (role : ℕ) → ReachesAlike r ms role → (p : Privilege) (rel : ℕ) → has (record r { members = ms }) role p rel ≡ has r role p rel

abbrev pub SeesByReach : Type 0
SeesByReach =
    (r : Rights) (ms : List Membership) (role : ℕ) → ReachesAlike r ms role
    → (table : ℕ) (test : Check) (row : Cells) → verdict (record r { members = ms }) role table test row ≡ verdict r role table test row

-- ---- policies

-- the role is exempt, or some permissive policy that applies passes the row and no restrictive one that applies fails it
abbrev pub RowsPassWherePermitted : Type 0
RowsPassWherePermitted =
    (r : Rights) (role table : ℕ) (test : Check) (row : Cells)
    → is_pass (verdict r role table test row)
    ≡ (is_exempt r role (slice_get r.guards table) || is_let_through r role test row (policies_of (slice_get r.guards table)))

abbrev pub NothingPassesWithoutPermissive : Type 0
NothingPassesWithoutPermissive =
    (r : Rights) (role table : ℕ) (test : Check) (row : Cells)
    → is_exempt r role (slice_get r.guards table) ≡ false
    → list_any (may_permit r role test) (policies_of (slice_get r.guards table)) ≡ false
    → verdict r role table test row ≡ NoPermissive

-- the policies of each table are in the order of their names, and no two have one name
abbrev pub PoliciesRise : Type 0
PoliciesRise = (r : Rights) → IsReached r → (table : ℕ) → Rise (policies_of (slice_get r.guards table))

-- the restrictive policy that is told comes first by name of those that fail
abbrev pub FirstByNameIsTold : Type 0
FirstByNameIsTold =
    (r : Rights) (role table : ℕ) (test : Check) (row : Cells) (place : ℕ)
    → IsReached r
    → verdict r role table test row ≡ Restrictive place
    → IsFirstByName (forbids r role test row) (policies_of (slice_get r.guards table)) place

-- a further restrictive policy lets no more rows through
abbrev pub RestrictiveNarrow : Type 0
RestrictiveNarrow =
    (r : Rights) (p : Policy) (role table : ℕ) (test : Check) (row : Cells)
    → p.restrictive ≡ true
    → is_pass (verdict (with_policy table p r) role table test row) ≡ true
    → is_pass (verdict r role table test row) ≡ true

-- a further permissive policy lets no fewer rows through
abbrev pub PermissiveWiden : Type 0
PermissiveWiden =
    (r : Rights) (p : Policy) (role table : ℕ) (test : Check) (row : Cells)
    → p.restrictive ≡ false
    → is_pass (verdict r role table test row) ≡ true
    → is_pass (verdict (with_policy table p r) role table test row) ≡ true

-- the policies of a table say nothing of the rows of another
abbrev pub OtherTablesStay : Type 0
OtherTablesStay =
    (r : Rights) (p : Policy) (role table other : ℕ) (test : Check) (row : Cells)
    → other ≢ table
    → verdict (with_policy table p r) role other test row ≡ verdict r role other test row
