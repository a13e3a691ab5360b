-- The rows that a reader sees: what they depend on, their limits, and the differences of them.
use Rattle.std.proofs.Common.{◌≡◌, ℕ, zero, ◌+◌, Bool, true, false, cond, not, ◌&&◌, ◌||◌, List, [], ◌∷◌, Option, None, Some, refl, sym, ap, subst, ◌∙◌, arith}
use Rattle.std.specs.Prelude.{slice_get, filter, position}
use Rattle.std.specs.List.{list_any}
use Rattle.iv_rows.specs.Cell.{Cell}
use Rattle.iv_rows.specs.Order.{row_eq}
use Rattle.iv_rows.specs.OrderLaws.{row_eq_decides}
use Rattle.iv_zset.specs.Limits.{copies}
use Rattle.iv_algebra.specs.Rows.{Cells}
use Rattle.iv_access.specs.declared.policy.Check.{Check}
use Rattle.iv_access.specs.declared.policy.Check.TheVariants as check
use Rattle.iv_access.specs.declared.policy.Verdict.TheVariants.{Pass, NoPermissive}
use Rattle.iv_access.specs.Rights.{Grantee, Public, Role, Guard, Policy, Rights}
use Rattle.iv_access.specs.Laws.{ReachesAlike}
use Rattle.iv_roles.specs.Roles.{is_admin}
use Rattle.iv_access.specs.Privileges.{is_for, role_name}
use Rattle.iv_access.specs.Policies.{applies, by_policies, covers, failed_at, forbids, is_exempt, is_pass, may_see, passes, permits, policies_of}

-- ---- what a role sees depends on its name, on the roles that it reaches and on the guard alone

pub is_for-ReachesAlike : (r q : Rights) (role : ℕ) → ReachesAlike q r.members role → (to : Grantee) → is_for r role to ≡ is_for q role to
is_for-ReachesAlike r q role reach Public = refl
is_for-ReachesAlike r q role reach (Role other) = reach other

module _ (r q : Rights) (role : ℕ) (reach : ReachesAlike q r.members role) (name : role_name r role ≡ role_name q role) (test : Check) (row : Cells) where
  applies_same : (p : Policy) → applies r role test p ≡ applies q role test p
  applies_same p = λ i. covers p.command test && list_any (λ to. is_for-ReachesAlike r q role reach to i) p.to

  permits_same : (p : Policy) → permits r role test row p ≡ permits q role test row p
  permits_same p = λ i. not p.restrictive && (applies_same p i && passes (name i) test row p)

  forbids_same : (p : Policy) → forbids r role test row p ≡ forbids q role test row p
  forbids_same p = λ i. p.restrictive && (applies_same p i && not (passes (name i) test row p))

  policies_same : (ps : List Policy) → by_policies r role test row ps ≡ by_policies q role test row ps
  policies_same ps = λ i. cond (list_any (λ p. permits_same p i) ps) (failed_at (position (λ p. forbids_same p i) ps)) NoPermissive

exempt_same : (r q : Rights) (role : ℕ) → ReachesAlike q r.members role → (g : Option Guard) → is_exempt r role g ≡ is_exempt q role g
exempt_same r q role reach None = refl
exempt_same r q role reach (Some g) = λ i. not g.enabled || (is_admin role || (reach g.owner i && not g.forced))

pub may_see-ReachesAlike : (r q : Rights) (role t : ℕ) → ReachesAlike q r.members role → role_name r role ≡ role_name q role → slice_get r.guards t ≡ slice_get q.guards t → (row : Cells) → may_see r role t row ≡ may_see q role t row
may_see-ReachesAlike r q role t reach name guard row =
    (λ i. is_pass (cond (exempt_same r q role reach (slice_get r.guards t) i) Pass (policies_same r q role reach name check.Select row (policies_of (slice_get r.guards t)) i)))
    ∙ ap (λ g. is_pass (cond (is_exempt q role g) Pass (by_policies q role check.Select row (policies_of g)))) guard

pub filter-ReachesAlike : (r q : Rights) (role t : ℕ) → ReachesAlike q r.members role → role_name r role ≡ role_name q role → slice_get r.guards t ≡ slice_get q.guards t → (rows : List Cells) → filter (may_see r role t) rows ≡ filter (may_see q role t) rows
filter-ReachesAlike r q role t reach name guard rows = λ i. filter (λ row. may_see-ReachesAlike r q role t reach name guard row i) rows

-- ---- how often a row is in a filtered list

none_more : (n : ℕ) → n ≡ 0 + n
none_more n = omega arith

chosen : (q r : List Cell) (b : Bool) (rows : List (List Cell)) → copies q (cond b (r ∷ rows) rows) ≡ cond b (cond (row_eq q r) 1 0 + copies q rows) (copies q rows)
chosen q r true rows = refl
chosen q r false rows = refl

module _ (p : List Cell → Bool) where
  pub copies_filter : (q : List Cell) (rows : List (List Cell)) → copies q (filter p rows) ≡ cond (p q) (copies q rows) 0
  copies_filter q [] = by (p q)
    where
      by : (b : Bool) → zero ≡ cond b 0 0
      by true = refl
      by false = refl
  copies_filter q (r ∷ rows) = chosen q r (p r) (filter p rows) ∙ by (row_eq q r) (p r) (p q) (λ h. ap p (sym ((row_eq_decides q r).0 h))) (copies_filter q rows)
    where
      by : (e b d : Bool) → (e ≡ true → b ≡ d) → copies q (filter p rows) ≡ cond d (copies q rows) 0 → cond b (cond e 1 0 + copies q (filter p rows)) (copies q (filter p rows)) ≡ cond d (cond e 1 0 + copies q rows) 0
      by true true d s h = let is : true ≡ d = s refl in subst (λ x. copies q (filter p rows) ≡ cond x (copies q rows) 0 → 1 + copies q (filter p rows) ≡ cond x (1 + copies q rows) 0) is (λ k. ap (λ n. 1 + n) k) h
      by true false d s h = let is : false ≡ d = s refl in subst (λ x. copies q (filter p rows) ≡ cond x (copies q rows) 0 → copies q (filter p rows) ≡ cond x (1 + copies q rows) 0) is (λ k. k) h
      by false true true s h = ap (λ n. 0 + n) h
      by false true false s h = ap (λ n. 0 + n) h
      by false false true s h = h ∙ none_more (copies q rows)
      by false false false s h = h
