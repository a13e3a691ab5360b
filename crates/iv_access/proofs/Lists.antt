-- Tests and places in a list of which each element is seen by a function.
use Rattle.std.proofs.Common.{◌≡◌, ℕ, suc, ◌+◌, ◌≤◌, List, [], ◌∷◌, map, length, Bool, true, false, cond, not, ◌||◌, refl, sym, ap, arith, Some, None}
use Rattle.std.specs.Prelude.{nat_lt}
use Rattle.std.specs.Map.{lookup}
use Rattle.std.specs.List.{list_any, position, position_or_len, prefix_len}
use Rattle.std.proofs.lemmas.Bool.{lt-ltb, ltb-true, ltb-false}
use Rattle.iv_roles.proofs.Lists.{absurd-false_is_true, lt-list_any, not_None-Some}

pub or_left : (a b : Bool) → (a || b) ≡ false → a ≡ false
or_left true b e = e
or_left false b e = refl

pub or_right : (a b : Bool) → (a || b) ≡ false → b ≡ false
or_right true b e = absurd-false_is_true (sym e)
or_right false b e = e

-- a key that no test finds has no value
pub lookup-none_passes : {K X : Type 0} (test : K → Bool) (es : List (K × X)) → list_any (λ e. test e.0) es ≡ false → lookup test es ≡ None
lookup-none_passes test [] e = refl
lookup-none_passes test (x ∷ xs) e =
    elim (test x.0) as (λ b. (b || list_any (λ e. test e.0) xs) ≡ false → cond b (Some x.1) (lookup test xs) ≡ None) [
      | true ↦ λ h. absurd-false_is_true (sym h)
      | false ↦ λ h. lookup-none_passes test xs h
    ] e

-- ---- the place of a new element

pub prefix_short : {A : Type 0} (p : A → Bool) (xs : List A) → prefix_len p xs ≤ length xs
prefix_short p [] = omega arith
prefix_short p (x ∷ xs) =
    elim (p x) as (λ b. cond b (1 + prefix_len p xs) 0 ≤ suc (length xs)) [
      | true ↦ let ih = prefix_short p xs in omega (arith, ih)
      | false ↦ omega arith
    ]

same_some : {A : Type 0} (x y : A) → Some x ≡ Some y → x ≡ y
same_some x y e = cc

pub place_some : {A : Type 0} (p : A → Bool) (xs : List A) (n : ℕ) → Some n ≡ position p xs → n ≡ position_or_len p xs
place_some p xs n e =
    elim (nat_lt (position_or_len p xs) (length xs)) as (λ b. Some n ≡ cond b (Some (position_or_len p xs)) None → n ≡ position_or_len p xs) [
      | true ↦ λ h. same_some n (position_or_len p xs) h
      | false ↦ λ h. absurd (not_None-Some n h)
    ] e

pub place_none : {A : Type 0} (p : A → Bool) (xs : List A) → None ≡ position p xs → length xs ≡ position_or_len p xs
place_none p xs e =
    let short = prefix_short (λ x. not (p x)) xs in
    elim (nat_lt (position_or_len p xs) (length xs)) as (λ b. nat_lt (position_or_len p xs) (length xs) ≡ b → None ≡ cond b (Some (position_or_len p xs)) None → length xs ≡ position_or_len p xs) [
      | true ↦ λ _ h. absurd (not_None-Some (position_or_len p xs) (sym h))
      | false ↦ λ t _. let far = ltb-false (position_or_len p xs) (length xs) t in omega (arith, short, far)
    ] refl e

none_found : {A : Type 0} (p : A → Bool) (xs : List A) → list_any p xs ≡ false → position_or_len p xs ≡ length xs
none_found p [] e = refl
none_found p (x ∷ xs) e =
    elim (p x) as (λ b. (b || list_any p xs) ≡ false → cond (not b) (1 + position_or_len p xs) 0 ≡ suc (length xs)) [
      | true ↦ λ h. absurd-false_is_true (sym h)
      | false ↦ λ h. let ih = none_found p xs h in omega (arith, ih)
    ] e

no_less : (m n : ℕ) → m ≡ n → nat_lt m n ≡ false
no_less m n e =
    elim (nat_lt m n) as (λ b. nat_lt m n ≡ b → b ≡ false) [
      | true ↦ λ t. let less = ltb-true m n t in absurd (omega (arith, less, e))
      | false ↦ λ t. refl
    ] refl

pub position_or_len-list_any : {A : Type 0} (p : A → Bool) (xs : List A) → nat_lt (position_or_len p xs) (length xs) ≡ list_any p xs
position_or_len-list_any p xs =
    elim (list_any p xs) as (λ b. list_any p xs ≡ b → nat_lt (position_or_len p xs) (length xs) ≡ b) [
      | true ↦ λ t. lt-ltb (position_or_len p xs) (length xs) (lt-list_any p xs t)
      | false ↦ λ t. no_less (position_or_len p xs) (length xs) (none_found p xs t)
    ] refl

pub map-of_map : {A B C : Type 0} (p : B → C) (f : A → B) (xs : List A) → map p (map f xs) ≡ map (λ x. p (f x)) xs
map-of_map p f [] = refl
map-of_map p f (x ∷ xs) = ap (λ ys. p (f x) ∷ ys) (map-of_map p f xs)
