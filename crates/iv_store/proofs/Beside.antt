-- What stands beside the first circuit that is for a role and a relation.
use Rattle.std.proofs.Common.{◌≡◌, ℕ, zero, suc, ◌<◌, Bool, true, false, cond, ◌&&◌, List, [], ◌∷◌, length, Option, None, Some, get_or, refl, sym, ap, subst, ◌∙◌, arith}
use Rattle.std.proofs.lemmas.Bool.Decides.{nat_tests}
use Rattle.std.proofs.lemmas.List.Quantifiers.{position-Some}
use Rattle.std.specs.Prelude.{◌==◌, is_some, position, slice_get}
use Rattle.iv_circuit.specs.Circuits.{Running}
use Rattle.iv_readers.specs.Each.{Each}
use Rattle.iv_store.specs.Found.{beside}
use Rattle.iv_readers.specs.Held.{come_to}
use Rattle.iv_readers.specs.Readers.{RoleCircuit, is_for}

two : (a b c d : ℕ) → ((a == b) && (c == d)) ≡ true → (a ≡ b) × (c ≡ d)
two a b c d h = (grind (arith, nat_tests), grind (arith, nat_tests))

-- what is for the role and the relation has both
pub same-is_for : (role rel : ℕ) (k : RoleCircuit) → is_for role rel k ≡ true → (k.role ≡ role) × (k.rel ≡ rel)
same-is_for role rel k h = two k.role role k.rel rel h

-- the place that is there
pub Some-is_some : (o : Option ℕ) → is_some o ≡ true → (i : ℕ) × (o ≡ Some i)
Some-is_some None h = cc
Some-is_some (Some i) h = (i, refl)

-- what is read at an index, as an index
pub slice_get-of_get_or : {X : Type 0} (xs : List X) (i : ℕ) (x : X) → i < length xs → x ≡ get_or xs i x → slice_get xs i ≡ Some x
slice_get-of_get_or [] i x l at = absurd (omega arith)
slice_get-of_get_or (y ∷ xs) zero x l at = ap (λ z. Some z) (sym at)
slice_get-of_get_or (y ∷ xs) (suc i) x l at = slice_get-of_get_or xs i x (omega arith) at

module _ (role rel : ℕ) where
  -- what has the role and the relation is for them
  is_self : (n : ℕ) → (n == n) ≡ true
  is_self n = grind (arith, nat_tests)

  pub is_own : (at : ℕ) (c : Running) → is_for role rel (come_to role rel at c) ≡ true
  is_own at c = ap (λ b. b && (rel == rel)) (is_self role) ∙ is_self rel

  module _ {X : Type 0} (none : X) where
    -- it is what stands at the place
    beside_index : (ks : List RoleCircuit) (xs : List X) (i : ℕ) (x : X) (d : RoleCircuit) → length xs ≡ length ks → i < length ks → is_for role rel (get_or ks i d) ≡ true
        → ((j : ℕ) → j < i → is_for role rel (get_or ks j d) ≡ false) → x ≡ get_or xs i x → beside none role rel ks xs ≡ x
    beside_index [] xs i x d l low t f at = absurd (omega arith)
    beside_index (k ∷ ks) [] i x d l low t f at = absurd (omega arith)
    beside_index (k ∷ ks) (y ∷ ys) zero x d l low t f at = ap (λ b. cond b y (beside none role rel ks ys)) t ∙ sym at
    beside_index (k ∷ ks) (y ∷ ys) (suc i) x d l low t f at =
        ap (λ b. cond b y (beside none role rel ks ys)) (f 0 (omega arith))
        ∙ beside_index ks ys i x d (omega (arith, l)) (omega arith) t (λ j h. f (suc j) (omega (arith, h))) at

    pub beside_is : (ks : List RoleCircuit) (xs : List X) (i : ℕ) (x : X) (d : RoleCircuit) → length xs ≡ length ks → position (is_for role rel) ks ≡ Some i → x ≡ get_or xs i x → beside none role rel ks xs ≡ x
    beside_is ks xs i x d l h at = let p = position-Some (is_for role rel) ks i d h in beside_index ks xs i x d l p.0 p.1 p.2 at

    -- what follows at each place from what holds there holds of it
    module _ (P : RoleCircuit → X → Type 0) (Q : X → Type 0) (go : (k : RoleCircuit) (x : X) → k.role ≡ role → k.rel ≡ rel → P k x → Q x) where
      one : (k : RoleCircuit) (x : X) → is_for role rel k ≡ true → P k x → Q x
      one k x t h = let b = same-is_for role rel k t in go k x b.0 b.1 h

      each_index : (ks : List RoleCircuit) (xs : List X) (i : ℕ) (d : RoleCircuit) → Each P ks xs → i < length ks → is_for role rel (get_or ks i d) ≡ true → Q (beside none role rel ks xs)
      each_index [] xs i d h low t = absurd (omega arith)
      each_index (k ∷ ks) [] i d h low t = absurd h
      each_index (k ∷ ks) (x ∷ xs) zero d h low t = subst Q (sym (ap (λ b. cond b x (beside none role rel ks xs)) t)) (one k x t h.0)
      each_index (k ∷ ks) (x ∷ xs) (suc i) d h low t = by (is_for role rel k) refl (each_index ks xs i d h.1 (omega arith) t)
        where
          by : (b : Bool) → is_for role rel k ≡ b → Q (beside none role rel ks xs) → Q (cond b x (beside none role rel ks xs))
          by true e later = one k x e h.0
          by false e later = later

      pub beside_each : (ks : List RoleCircuit) (xs : List X) → Each P ks xs → is_some (position (is_for role rel) ks) ≡ true → Q (beside none role rel ks xs)
      beside_each [] xs h t = cc
      beside_each (k ∷ ks) xs h t =
          let i = Some-is_some (position (is_for role rel) (k ∷ ks)) t in
          let p = position-Some (is_for role rel) (k ∷ ks) i.0 k i.1 in
          each_index (k ∷ ks) xs i.0 k h p.0 p.1
