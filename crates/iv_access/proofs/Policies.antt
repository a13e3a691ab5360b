-- A table's policies in a list.
use Rattle.std.proofs.Common.{◌≡◌, ℕ, zero, suc, ◌+◌, List, [], ◌∷◌, Bool, true, false, cond, not, ◌&&◌, ◌||◌, refl, sym, ap, ◌∙◌, Some, None, get_or, arith}
use Rattle.std.specs.Prelude.{slice_set, insert, if◌then◌else◌}
use Rattle.std.specs.List.{list_any, position_or_len}
use Rattle.iv_algebra.specs.Rows.{Cells}
use Rattle.iv_access.specs.declared.policy.Check.{Check}
use Rattle.iv_access.specs.declared.policy.Verdict.TheVariants.{Pass, NoPermissive}
use Rattle.iv_access.specs.Rights.{Guard, Policy, Rights}
use Rattle.iv_access.specs.Policies.{applies, passes, permits, forbids, by_policies, failed_at, is_pass}
use Rattle.iv_access.specs.Changing.{changed_at, insert_policy}
use Rattle.iv_access.specs.Given.{may_permit}
use Rattle.iv_access.specs.Privileges.{role_name}
use Rattle.iv_access.specs.Stored.{is_before}
use Rattle.iv_access.proofs.Lists.{position_or_len-list_any, or_left, or_right}

pub slice_set-changed_at : (n : ℕ) (change : Guard → Guard) (gs : List Guard) (g : Guard) → g ≡ get_or gs n g → slice_set gs n (change g) ≡ changed_at n change gs
slice_set-changed_at n change [] g e = refl
slice_set-changed_at zero change (h ∷ gs) g e = ap (λ x. change x ∷ gs) e
slice_set-changed_at (suc n) change (h ∷ gs) g e = ap (λ rest. h ∷ rest) (slice_set-changed_at n change gs g e)

next_place : (n : ℕ) → 1 + n ≡ suc n
next_place n = omega arith

-- before the first whose name comes later
pub insert-insert_policy : (p : Policy) (ps : List Policy) → insert ps (position_or_len (is_before p.name) ps) p ≡ insert_policy p ps
insert-insert_policy p [] = refl
insert-insert_policy p (q ∷ qs) =
    elim (is_before p.name q) as (λ b. insert (q ∷ qs) (cond (not b) (1 + position_or_len (is_before p.name) qs) 0) p ≡ (if b then p ∷ q ∷ qs else q ∷ insert_policy p qs)) [
      | true ↦ refl
      | false ↦ ap (λ n. insert (q ∷ qs) n p) (next_place (position_or_len (is_before p.name) qs)) ∙ ap (λ rest. q ∷ rest) (insert-insert_policy p qs)
    ]

-- ---- what a filter lets through

passed : (b : Bool) (n : ℕ) → is_pass (failed_at (cond b (Some n) None)) ≡ not b
passed true n = refl
passed false n = refl

chosen : (a b : Bool) (n : ℕ) → is_pass (if a then failed_at (cond b (Some n) None) else NoPermissive) ≡ (a && not b)
chosen true b n = passed b n
chosen false b n = refl

pub is_pass-filter : (exempt : Bool) (r : Rights) (role : ℕ) (test : Check) (row : Cells) (ps : List Policy)
    → (exempt || (list_any (permits r role test row) ps && not (list_any (forbids r role test row) ps))) ≡ is_pass (if exempt then Pass else by_policies r role test row ps)
is_pass-filter true r role test row ps = refl
is_pass-filter false r role test row ps =
    ap (λ b. list_any (permits r role test row) ps && not b) (sym (position_or_len-list_any (forbids r role test row) ps))
    ∙ sym (chosen (list_any (permits r role test row) ps) _ (position_or_len (forbids r role test row) ps))

-- ---- where no permissive policy applies

and_left : (a b c : Bool) → (a && b) ≡ false → (a && (b && c)) ≡ false
and_left true false c e = refl
and_left true true c e = cc
and_left false b c e = refl

pub list_any-permits : (r : Rights) (role : ℕ) (test : Check) (row : Cells) (ps : List Policy) → list_any (may_permit r role test) ps ≡ false → list_any (permits r role test row) ps ≡ false
list_any-permits r role test row [] e = refl
list_any-permits r role test row (p ∷ ps) e =
    λ i. and_left (not p.restrictive) (applies r role test p) (passes (role_name r role) test row p) (or_left (may_permit r role test p) (list_any (may_permit r role test) ps) e) i
    || list_any-permits r role test row ps (or_right (may_permit r role test p) (list_any (may_permit r role test) ps) e) i
