-- The one policy of a name.
use Rattle.std.proofs.Common.{◌≡◌, ◌∙◌, Bool, true, false, ap, cond, filter, length, List, [], ◌∷◌, Option, None, Some, option_map, refl, sym}
use Rattle.std.specs.List.{AllByRecursion, count_by, find}
use Rattle.std.proofs.lemmas.List.Sums.{length-filter}
use Rattle.std.specs.Prelude.{IfSome}
use Rattle.iv_algebra.specs.Shapes.{Condition, condition_of}
use Rattle.iv_algebra.specs.declared.pred.Pred.{Pred}
use Rattle.iv_access.specs.Policies.{is_named, IsRestriction}
use Rattle.iv_access.specs.Rights.{Name, Policy}

module _ (name : Name) (c : Condition) where
  abbrev AreRestrictions : List Policy → Type 0
  AreRestrictions ps = AllByRecursion (IsRestriction name c) ps

  unlike : {A : Type 0} (b : Bool) → b ≡ true → b ≡ false → A
  unlike true h g = cc
  unlike false h g = cc

  no_longer : {A : Type 0} (q : Policy) (qs : List Policy) → length (q ∷ qs) ≡ 0 → A
  no_longer q qs h = cc

  none_part : (q : Policy) (qs us : List Policy) (b : Bool) → is_named name q ≡ b → (length us ≡ 0 → AreRestrictions qs) → length (cond b (q ∷ us) us) ≡ 0 → AreRestrictions (q ∷ qs)
  none_part q qs us true e f h = no_longer q us h
  none_part q qs us false e f h = ((λ is. unlike (is_named name q) is e), f h)

  none_named : (ps : List Policy) → length (filter (is_named name) ps) ≡ 0 → AreRestrictions ps
  none_named [] h = tt
  none_named (q ∷ qs) h = none_part q qs (filter (is_named name) qs) (is_named name q) refl (none_named qs) h

  abbrev IsOne : Policy → Type 0
  IsOne p = (p.restrictive ≡ true) × (p.using ≡ Some c)

  same : (p q : Policy) → Some q ≡ Some p → q ≡ p
  same p q e = cc

  shorter : (q : Policy) (qs : List Policy) → length (q ∷ qs) ≡ 1 → length qs ≡ 0
  shorter q qs h = cc

  one_part : (p q : Policy) (qs us : List Policy) (b : Bool) → is_named name q ≡ b → IsOne p → (length us ≡ 0 → AreRestrictions qs)
      → (find (is_named name) qs ≡ Some p → length us ≡ 1 → AreRestrictions qs)
      → cond b (Some q) (find (is_named name) qs) ≡ Some p → length (cond b (q ∷ us) us) ≡ 1 → AreRestrictions (q ∷ qs)
  one_part p q qs us true e one none rest f h = ((λ is. ((λ i. (same p q f i).restrictive) ∙ one.0, (λ i. (same p q f i).using) ∙ one.1)), none (shorter q us h))
  one_part p q qs us false e one none rest f h = ((λ is. unlike (is_named name q) is e), rest f h)

  only : (p : Policy) (ps : List Policy) → IsOne p → find (is_named name) ps ≡ Some p → length (filter (is_named name) ps) ≡ 1 → AreRestrictions ps
  only p [] one f h = tt
  only p (q ∷ qs) one f h = one_part p q qs (filter (is_named name) qs) (is_named name q) refl one (none_named qs) (only p qs one) f h

  pub alone : (p : Policy) (ps : List Policy) → find (is_named name) ps ≡ Some p → p.restrictive ≡ true → p.using ≡ Some c → count_by (is_named name) ps ≡ 1 → AreRestrictions ps
  alone p ps f restrictive using one = only p ps (restrictive, using) f (length-filter (is_named name) ps ∙ one)

-- the same of a predicate that is lent, if there is one
pub lent_alone : {B : Type 0} (now : B → Pred) (o : Option B) (u : Option Pred) → option_map now o ≡ u → (name : Name) (p : Policy) (ps : List Policy)
    → p.using ≡ option_map condition_of u → p.restrictive ≡ true → find (is_named name) ps ≡ Some p → count_by (is_named name) ps ≡ 1
    → IfSome o (λ b. AllByRecursion (IsRestriction name (condition_of (now b))) ps)
lent_alone now None u e name p ps using restrictive f one = tt
lent_alone now (Some b) u e name p ps using restrictive f one =
    alone name (condition_of (now b)) p ps f restrictive (using ∙ ap (option_map condition_of) (sym e)) one
