-- The rights that changes lead to, and the order of a table's policies.
use Rattle.std.specs.Prelude.{◌≡◌, ℕ, ◌⊎◌, Bool, true, List, Some, None, All, AllPairs, slice_get}
use Rattle.std.specs.declared.cmp.Ordering.TheVariants.{Less}
use Rattle.std.specs.Ordering.{nat_cmp}
use Rattle.std.specs.Cmp.Lexicographic.{slice_cmp}
use Rattle.iv_access.specs.declared.privilege.Privilege.{Privilege}
use Rattle.iv_access.specs.Rights.{Name, Grantee, Policy, Rights, rights_at_start}
use Rattle.iv_access.specs.NewPolicies.{NewPolicy, policy_from}
use Rattle.iv_access.specs.Changing.{with_role, with_relation, with_grants, without_grants, with_member, without_member, with_security, with_policy, without_policy}
use Rattle.iv_access.specs.Access.{role_number}
use Rattle.iv_access.specs.Faults.{grant_role_fault, takes_policy}

-- those at the start, and those after a change of such; a policy and a membership come if they may
pub data IsReached : Rights → Type 0 where
  at_start : IsReached rights_at_start
  role_created : (r : Rights) (name : Name) → IsReached r → IsReached (with_role name r)
  role_granted : (r : Rights) (acting : ℕ) (role to : Name) → grant_role_fault r acting role to ≡ None
      → IsReached r → IsReached (with_member (role_number r role) (role_number r to) r)
  role_revoked : (r : Rights) (role member : ℕ) → IsReached r → IsReached (without_member role member r)
  relation_added : (r : Rights) (owner : ℕ) → IsReached r → IsReached (with_relation owner r)
  privileges_granted : (r : Rights) (rel : ℕ) (ps : List Privilege) (to : Grantee) → IsReached r → IsReached (with_grants rel ps to r)
  privileges_revoked : (r : Rights) (rel : ℕ) (ps : List Privilege) (to : Grantee) → IsReached r → IsReached (without_grants rel ps to r)
  security_switched : (r : Rights) (table : ℕ) (enabled forced : Bool) → IsReached r → IsReached (with_security table enabled forced r)
  policy_created : (r : Rights) (table : ℕ) (p : NewPolicy) → takes_policy r table p.name p.to ≡ true
      → IsReached r → IsReached (with_policy table (policy_from r p) r)
  policy_dropped : (r : Rights) (table : ℕ) (name : Name) → IsReached r → IsReached (without_policy table name r)

-- by the bytes of their names
abbrev pub ComesBefore : Policy → Policy → Type 0
ComesBefore p q = slice_cmp nat_cmp p.name q.name ≡ Less

-- each comes before all later ones, so that no two have one name
abbrev pub Rise : List Policy → Type 0
Rise ps = AllPairs ComesBefore ps

-- of the policies that pass the test the one at the place comes first by name
pub record IsFirstByName (test : Policy → Bool) (ps : List Policy) (place : ℕ) : Type 0 where
  pub policy : Policy
  pub there : slice_get ps place ≡ Some policy
  pub passes : test policy ≡ true
  pub before : All (λ q. test q ≡ true → (q ≡ policy) ⊎ ComesBefore policy q) ps
