-- Tests and places in a list of which each element is seen by a function.
use Rattle.std.proofs.Common.{◌≡◌, suc, ◌+◌, ◌<◌, List, [], ◌∷◌, map, length, Bool, true, false, cond, not, ◌||◌, refl, sym, ap, ◌∙◌, arith, Some, None}
use Rattle.std.specs.Prelude.{nat_lt}
use Rattle.std.specs.List.{list_any, position, position_or_len, prefix_len}
use Rattle.std.proofs.lemmas.Bool.{lt-ltb}
use Rattle.std.proofs.lemmas.List.{length-map}

prefix_map : {A B : Type 0} (p : B → Bool) (f : A → B) (xs : List A) → prefix_len p (map f xs) ≡ prefix_len (λ x. p (f x)) xs
prefix_map p f [] = refl
prefix_map p f (x ∷ xs) = ap (λ n. cond (p (f x)) (1 + n) 0) (prefix_map p f xs)

pub position-map : {A B : Type 0} (p : B → Bool) (f : A → B) (xs : List A) → position p (map f xs) ≡ position (λ x. p (f x)) xs
position-map p f xs = λ i. cond (nat_lt (prefix_map (λ x. not (p x)) f xs i) (length-map xs f i)) (Some (prefix_map (λ x. not (p x)) f xs i)) None

pub list_any-map : {A B : Type 0} (p : B → Bool) (f : A → B) (xs : List A) → list_any p (map f xs) ≡ list_any (λ x. p (f x)) xs
list_any-map p f [] = refl
list_any-map p f (x ∷ xs) = ap (λ b. p (f x) || b) (list_any-map p f xs)

pub absurd-false_is_true : {A : Type 0} → false ≡ true → A
absurd-false_is_true h = cc

pub lt-list_any : {A : Type 0} (p : A → Bool) (xs : List A) → list_any p xs ≡ true → position_or_len p xs < length xs
lt-list_any p [] e = absurd-false_is_true e
lt-list_any p (x ∷ xs) e =
    elim (p x) as (λ b. (b || list_any p xs) ≡ true → cond (not b) (1 + position_or_len p xs) 0 < suc (length xs)) [
      | true ↦ λ _. omega arith
      | false ↦ λ h. let ih = lt-list_any p xs h in omega (arith, ih)
    ] e

pub not_None-Some : {A : Type 0} (x : A) → Some x ≡ None → ⊥
not_None-Some x e = cc

pub list_any-no_position : {A : Type 0} (p : A → Bool) (xs : List A) → position p xs ≡ None → list_any p xs ≡ false
list_any-no_position p xs e =
    elim (list_any p xs) as (λ b. list_any p xs ≡ b → b ≡ false) [
      | true ↦ λ t. absurd (not_None-Some (position_or_len p xs) (ap (λ b. cond b (Some (position_or_len p xs)) None) (sym (lt-ltb (position_or_len p xs) (length xs) (lt-list_any p xs t))) ∙ e))
      | false ↦ λ _. refl
    ] refl

-- what is not there by its image is not there
pub list_any-no_position-map : {A B : Type 0} (p : B → Bool) (f : A → B) (xs : List A) → position p (map f xs) ≡ None → list_any (λ x. p (f x)) xs ≡ false
list_any-no_position-map p f xs e = sym (list_any-map p f xs) ∙ list_any-no_position p (map f xs) e
