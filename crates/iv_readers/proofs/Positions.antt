-- Where the first of a list is that passes a test, by the list's parts.
use Rattle.std.proofs.Common.{◌≡◌, ℕ, suc, ◌+◌, Bool, true, false, cond, ◌||◌, List, [], ◌∷◌, ◌++◌, length, Option, None, Some, refl, sym, ap, ◌∙◌, arith}
use Rattle.std.proofs.lemmas.Bool.Decides.{nat_tests}
use Rattle.std.specs.Prelude.{is_some, nat_lt, not, option_map, position}
use Rattle.std.specs.List.{list_any, position_or_len}
use Rattle.iv_rows.specs.Options.{if_some}

next_lt : (m n : ℕ) → nat_lt (1 + m) (suc n) ≡ nat_lt m n
next_lt m n = grind (arith, nat_tests)

zero_lt : (n : ℕ) → nat_lt 0 (suc n) ≡ true
zero_lt n = grind (arith, nat_tests)

module _ {X : Type 0} (p : X → Bool) where
  pub position-cons : (x : X) (xs : List X) → position p (x ∷ xs) ≡ cond (p x) (Some 0) (option_map (λ i. 1 + i) (position p xs))
  position-cons x xs = by (p x) (nat_lt (position_or_len p xs) (length xs)) refl
    where
      by : (b c : Bool) → nat_lt (position_or_len p xs) (length xs) ≡ c
          → cond (nat_lt (cond (not b) (1 + position_or_len p xs) 0) (suc (length xs))) (Some (cond (not b) (1 + position_or_len p xs) 0)) None
          ≡ cond b (Some 0) (option_map (λ i. 1 + i) (cond c (Some (position_or_len p xs)) None))
      by true c e = ap (λ d. cond d (Some 0) None) (zero_lt (length xs))
      by false true e = ap (λ d. cond d (Some (1 + position_or_len p xs)) None) (next_lt (position_or_len p xs) (length xs) ∙ e)
      by false false e = ap (λ d. cond d (Some (1 + position_or_len p xs)) None) (next_lt (position_or_len p xs) (length xs) ∙ e)

  pub position-push : (xs : List X) (x : X) → position p (xs ++ x ∷ []) ≡ if_some (position p xs) (cond (p x) (Some (length xs)) None) (λ i. Some i)
  position-push [] x = position-cons x []
  position-push (y ∷ xs) x =
      position-cons y (xs ++ x ∷ []) ∙ ap (λ o. cond (p y) (Some 0) (option_map (λ i. 1 + i) o)) (position-push xs x) ∙ by (p y) (position p xs) (p x)
      ∙ ap (λ o. if_some o (cond (p x) (Some (suc (length xs))) None) (λ i. Some i)) (sym (position-cons y xs))
    where
      by : (b : Bool) (o : Option ℕ) (c : Bool) → cond b (Some 0) (option_map (λ i. 1 + i) (if_some o (cond c (Some (length xs)) None) (λ i. Some i)))
          ≡ if_some (cond b (Some 0) (option_map (λ i. 1 + i) o)) (cond c (Some (suc (length xs))) None) (λ i. Some i)
      by true o c = refl
      by false (Some i) c = refl
      by false None true = ap (λ n. Some n) (omega arith)
      by false None false = refl

  -- it is there if some passes
  pub is_some-position : (xs : List X) → is_some (position p xs) ≡ list_any p xs
  is_some-position [] = refl
  is_some-position (x ∷ xs) = ap (λ o. is_some o) (position-cons x xs) ∙ by (p x) (position p xs) (is_some-position xs)
    where
      by : (b : Bool) (o : Option ℕ) → is_some o ≡ list_any p xs → is_some (cond b (Some 0) (option_map (λ i. 1 + i) o)) ≡ (b || list_any p xs)
      by true o h = refl
      by false None h = h
      by false (Some i) h = h
