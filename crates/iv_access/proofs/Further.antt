-- What one more policy changes.
use Rattle.std.proofs.Common.{◌≡◌, ◌≢◌, ℕ, zero, suc, List, [], ◌∷◌, Bool, true, false, not, ◌&&◌, ◌||◌, refl, sym, ap, ◌∙◌, Option, Some, None}
use Rattle.std.specs.Prelude.{slice_get, option_map, position, if◌then◌else◌}
use Rattle.std.specs.List.{list_any}
use Rattle.std.specs.Ordering.{is_lt, nat_cmp}
use Rattle.std.specs.Cmp.Lexicographic.{slice_cmp}
use Rattle.iv_algebra.specs.Rows.{Cells}
use Rattle.iv_access.specs.declared.policy.Check.{Check}
use Rattle.iv_access.specs.declared.policy.Verdict.TheVariants.{Pass, NoPermissive}
use Rattle.iv_access.specs.Rights.{Grantee, Public, Role, Guard, Policy, Rights}
use Rattle.iv_access.specs.Privileges.{is_for, role_name}
use Rattle.iv_access.specs.Policies.{applies, by_policies, covers, failed_at, forbids, is_exempt, is_pass, passes, permits, policies_of}
use Rattle.iv_access.specs.Changing.{changed_at, insert_policy}
use Rattle.iv_access.proofs.Policies.{is_pass-filter}

-- ---- the guard of a table

pub slice_get-changed_at : (n : ℕ) (change : Guard → Guard) (gs : List Guard) → slice_get (changed_at n change gs) n ≡ option_map change (slice_get gs n)
slice_get-changed_at n change [] = refl
slice_get-changed_at zero change (g ∷ gs) = refl
slice_get-changed_at (suc n) change (g ∷ gs) = slice_get-changed_at n change gs

pub slice_get-changed_elsewhere : (n m : ℕ) (change : Guard → Guard) (gs : List Guard) → m ≢ n → slice_get (changed_at n change gs) m ≡ slice_get gs m
slice_get-changed_elsewhere n m change [] apart = refl
slice_get-changed_elsewhere zero zero change (g ∷ gs) apart = absurd (apart refl)
slice_get-changed_elsewhere zero (suc m) change (g ∷ gs) apart = refl
slice_get-changed_elsewhere (suc n) zero change (g ∷ gs) apart = refl
slice_get-changed_elsewhere (suc n) (suc m) change (g ∷ gs) apart = slice_get-changed_elsewhere n m change gs (λ e. apart (ap suc e))

-- ---- what policies say does not look at the guards

module _ (r : Rights) (gs : List Guard) (role : ℕ) where
  same_for : (g : Grantee) → is_for (record r { guards = gs }) role g ≡ is_for r role g
  same_for Public = refl
  same_for (Role other) = refl

  same_applies : (test : Check) (p : Policy) → applies (record r { guards = gs }) role test p ≡ applies r role test p
  same_applies test p = λ i. covers p.command test && list_any (λ g. same_for g i) p.to

  pub same_permits : (test : Check) (row : Cells) (p : Policy) → permits (record r { guards = gs }) role test row p ≡ permits r role test row p
  same_permits test row p = λ i. not p.restrictive && (same_applies test p i && passes (role_name r role) test row p)

  pub same_forbids : (test : Check) (row : Cells) (p : Policy) → forbids (record r { guards = gs }) role test row p ≡ forbids r role test row p
  same_forbids test row p = λ i. p.restrictive && (same_applies test p i && not (passes (role_name r role) test row p))

  same_exempt : (o : Option Guard) → is_exempt (record r { guards = gs }) role o ≡ is_exempt r role o
  same_exempt None = refl
  same_exempt (Some g) = refl

  pub same_verdict : (test : Check) (row : Cells) (o : Option Guard)
      → (if is_exempt (record r { guards = gs }) role o then Pass else by_policies (record r { guards = gs }) role test row (policies_of o))
      ≡ (if is_exempt r role o then Pass else by_policies r role test row (policies_of o))
  same_verdict test row o =
      λ i. if same_exempt o i then Pass else (
      if list_any (λ p. same_permits test row p i) (policies_of o) then failed_at (position (λ p. same_forbids test row p i) (policies_of o))
      else NoPermissive)

-- ---- one more policy

either_way : (t a b : Bool) → (t || (a || b)) ≡ (a || (t || b))
either_way true true b = refl
either_way true false b = refl
either_way false a b = refl

pub any_inserted : (t : Policy → Bool) (p : Policy) (ps : List Policy) → list_any t (insert_policy p ps) ≡ (t p || list_any t ps)
any_inserted t p [] = refl
any_inserted t p (q ∷ qs) =
    elim (is_lt (slice_cmp nat_cmp p.name q.name)) as (λ b. list_any t (if b then p ∷ q ∷ qs else q ∷ insert_policy p qs) ≡ (t p || (t q || list_any t qs))) [
      | true ↦ refl
      | false ↦ ap (λ b. t q || b) (any_inserted t p qs) ∙ either_way (t q) (t p) (list_any t qs)
    ]

narrowed : (restrictive : Bool) (exempt a f p g : Bool) → restrictive ≡ true
    → (exempt || (((not restrictive && a) || p) && not ((restrictive && f) || g))) ≡ true → (exempt || (p && not g)) ≡ true
narrowed false exempt a f p g e h = cc
narrowed true true a f p g e h = refl
narrowed true false a true true g e h = cc
narrowed true false a false true g e h = h
narrowed true false a f false g e h = h

widened : (restrictive : Bool) (exempt a f p g : Bool) → restrictive ≡ false
    → (exempt || (p && not g)) ≡ true → (exempt || (((not restrictive && a) || p) && not ((restrictive && f) || g))) ≡ true
widened true exempt a f p g e h = cc
widened false true a f p g e h = refl
widened false false true f true g e h = h
widened false false false f true g e h = h
widened false false a f false g e h = cc

abbrev pub further : Policy → Guard → Guard
further p g = record g { policies = insert_policy p g.policies }

module _ (r : Rights) (p : Policy) (role : ℕ) (test : Check) (row : Cells) where
  pub narrow : (o : Option Guard) → p.restrictive ≡ true
      → is_pass (if is_exempt r role (option_map (further p) o) then Pass else by_policies r role test row (policies_of (option_map (further p) o))) ≡ true
      → is_pass (if is_exempt r role o then Pass else by_policies r role test row (policies_of o)) ≡ true
  narrow None e h = h
  narrow (Some g) e h =
      sym (is_pass-filter (is_exempt r role (Some g)) r role test row g.policies)
      ∙ narrowed p.restrictive (is_exempt r role (Some g)) (applies r role test p && passes (role_name r role) test row p) (applies r role test p && not (passes (role_name r role) test row p))
      (list_any (permits r role test row) g.policies) (list_any (forbids r role test row) g.policies) e
      ((λ i. is_exempt r role (Some g) || (sym (any_inserted (permits r role test row) p g.policies) i && not (sym (any_inserted (forbids r role test row) p g.policies) i)))
      ∙ is_pass-filter (is_exempt r role (Some g)) r role test row (insert_policy p g.policies) ∙ h)

  pub widen : (o : Option Guard) → p.restrictive ≡ false
      → is_pass (if is_exempt r role o then Pass else by_policies r role test row (policies_of o)) ≡ true
      → is_pass (if is_exempt r role (option_map (further p) o) then Pass else by_policies r role test row (policies_of (option_map (further p) o))) ≡ true
  widen None e h = h
  widen (Some g) e h =
      sym (is_pass-filter (is_exempt r role (Some g)) r role test row (insert_policy p g.policies))
      ∙ (λ i. is_exempt r role (Some g) || (any_inserted (permits r role test row) p g.policies i && not (any_inserted (forbids r role test row) p g.policies i)))
      ∙ widened p.restrictive (is_exempt r role (Some g)) (applies r role test p && passes (role_name r role) test row p) (applies r role test p && not (passes (role_name r role) test row p))
      (list_any (permits r role test row) g.policies) (list_any (forbids r role test row) g.policies) e
      (is_pass-filter (is_exempt r role (Some g)) r role test row g.policies ∙ h)
