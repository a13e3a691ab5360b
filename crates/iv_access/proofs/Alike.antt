-- A role that reaches the same roles has and sees the same.
use Rattle.std.proofs.Common.{◌≡◌, ℕ, ◌==◌, List, not, ◌&&◌, ◌||◌, refl, Option, Some, None}
use Rattle.std.specs.Prelude.{if◌then◌else◌, position, slice_get}
use Rattle.std.specs.List.{list_any}
use Rattle.iv_algebra.specs.Rows.{Cells}
use Rattle.iv_access.specs.declared.policy.Check.{Check}
use Rattle.iv_access.specs.declared.policy.Verdict.TheVariants.{Pass, NoPermissive}
use Rattle.iv_access.specs.declared.privilege.Privilege.{Privilege}
use Rattle.iv_access.specs.Laws.{ReachesAlike}
use Rattle.iv_access.specs.Policies.{applies, covers, failed_at, forbids, is_exempt, passes, permits, policies_of, verdict}
use Rattle.iv_roles.specs.Roles.{is_admin}
use Rattle.iv_access.specs.Privileges.{has, is_for, privilege_eq, role_name}
use Rattle.iv_roles.specs.Memberships.{Membership}
use Rattle.iv_access.specs.Rights.{Grantee, Public, Role, Guard, Policy, Rights}

module _ (r : Rights) (ms : List Membership) (role : ℕ) (alike : ReachesAlike r ms role) where
  same_for : (g : Grantee) → is_for (record r { members = ms }) role g ≡ is_for r role g
  same_for Public = refl
  same_for (Role other) = alike other

  pub same_has : (p : Privilege) (rel : ℕ) → has (record r { members = ms }) role p rel ≡ has r role p rel
  same_has p rel = λ i. is_admin role || list_any (λ g. rel == g.rel && (privilege_eq p g.privilege && same_for g.grantee i)) r.grants

  same_applies : (test : Check) (p : Policy) → applies (record r { members = ms }) role test p ≡ applies r role test p
  same_applies test p = λ i. covers p.command test && list_any (λ g. same_for g i) p.to

  same_permits : (test : Check) (row : Cells) (p : Policy) → permits (record r { members = ms }) role test row p ≡ permits r role test row p
  same_permits test row p = λ i. not p.restrictive && (same_applies test p i && passes (role_name r role) test row p)

  same_forbids : (test : Check) (row : Cells) (p : Policy) → forbids (record r { members = ms }) role test row p ≡ forbids r role test row p
  same_forbids test row p = λ i. p.restrictive && (same_applies test p i && not (passes (role_name r role) test row p))

  same_exempt : (o : Option Guard) → is_exempt (record r { members = ms }) role o ≡ is_exempt r role o
  same_exempt None = refl
  same_exempt (Some g) = λ i. not g.enabled || (is_admin role || (alike g.owner i && not g.forced))

  pub same_sight : (table : ℕ) (test : Check) (row : Cells) → verdict (record r { members = ms }) role table test row ≡ verdict r role table test row
  same_sight table test row =
      let o = slice_get r.guards table in
      λ i. if same_exempt o i then Pass else (
      if list_any (λ p. same_permits test row p i) (policies_of o) then failed_at (position (λ p. same_forbids test row p i) (policies_of o))
      else NoPermissive)
