-- The first key of two lists that passes a test.
use Rattle.std.proofs.Common.{◌≡◌, ◌∙◌, ℕ, List, [], ◌∷◌, ◌++◌, Bool, true, false, cond, Option, Some, None, refl, sym, ap}
use Rattle.std.specs.Prelude.{find, unwrap_or}

abbrev either : Option (List ℕ) → Option (List ℕ) → Option (List ℕ)
either None p = p
either (Some k) p = Some k

find_joined : (t : List ℕ → Bool) (a b : List (List ℕ)) → find t (a ++ b) ≡ either (find t a) (find t b)
find_joined t [] b = refl
find_joined t (k ∷ a) b = part (find_joined t a b) (t k)
  where
    part : find t (a ++ b) ≡ either (find t a) (find t b) → (y : Bool) → cond y (Some k) (find t (a ++ b)) ≡ either (cond y (Some k) (find t a)) (find t b)
    part rest true = refl
    part rest false = rest

pub unwrap_or-find_first : (t : List ℕ → Bool) (a b : List (List ℕ)) (k other : List ℕ) → Some k ≡ find t a → k ≡ unwrap_or (find t (a ++ b)) other
unwrap_or-find_first t a b k other h = sym (ap (λ o. unwrap_or o other) (find_joined t a b ∙ ap (λ o. either o (find t b)) (sym h)))

pub unwrap_or-find_second : (t : List ℕ → Bool) (a b : List (List ℕ)) (k other : List ℕ) → None ≡ find t a → Some k ≡ find t b
    → k ≡ unwrap_or (find t (a ++ b)) other
unwrap_or-find_second t a b k other h e = sym (ap (λ o. unwrap_or o other) (find_joined t a b ∙ (λ i. either (sym h i) (sym e i))))

pub unwrap_or-find_neither : (t : List ℕ → Bool) (a b : List (List ℕ)) (other : List ℕ) → None ≡ find t a → None ≡ find t b
    → other ≡ unwrap_or (find t (a ++ b)) other
unwrap_or-find_neither t a b other h e = sym (ap (λ o. unwrap_or o other) (find_joined t a b ∙ (λ i. either (sym h i) (sym e i))))
