-- Words by their number of bytes.
use Rattle.std.proofs.Common.{◌≡◌, ◌==◌, ◌||◌, ℕ, true, false, List, [], ◌∷◌, length, cond, refl, sym, ap, ◌∙◌, bytes_eq}
use Rattle.std.specs.List.{list_any, filter}
use Rattle.std.proofs.lemmas.Bool.{eq-eqb, eqb-true}
use Rattle.std.proofs.lemmas.Slice.Eq.{bytes_eq-Decides}
use Rattle.iv_rows.specs.Names.{reserved, is_reserved}

differs : true ≡ false → ⊥
differs h = cc

apart : (w s : List ℕ) → (length w == length s) ≡ false → bytes_eq w s ≡ false
apart w s h =
    elim (bytes_eq w s) as (λ b. bytes_eq w s ≡ b → b ≡ false) [
      | true ↦ λ e. absurd (differs (sym (eq-eqb (length w) (length s) (ap length ((bytes_eq-Decides w s).0 e))) ∙ h))
      | false ↦ λ _. refl
    ] refl

-- only the words of the text's length can be the text
by_length : (words : List (List ℕ)) (s : List ℕ) → list_any (λ w. bytes_eq w s) words ≡ list_any (λ w. bytes_eq w s) (filter (λ w. length w == length s) words)
by_length [] s = refl
by_length (w ∷ ws) s =
    elim (length w == length s) as (λ b. (length w == length s) ≡ b → (bytes_eq w s || list_any (λ x. bytes_eq x s) ws) ≡ list_any (λ x. bytes_eq x s) (cond b (w ∷ filter (λ x. length x == length s) ws) (filter (λ x. length x == length s) ws))) [
      | true ↦ λ _. ap (λ r. bytes_eq w s || r) (by_length ws s)
      | false ↦ λ h. ap (λ r. r || list_any (λ x. bytes_eq x s) ws) (apart w s h) ∙ by_length ws s
    ] refl

pub is_reserved-of_length : (n : ℕ) (s : List ℕ) → length s ≡ n → list_any (λ w. bytes_eq w s) (filter (λ w. length w == n) reserved) ≡ is_reserved s
is_reserved-of_length n s h = sym (by_length reserved s ∙ ap (λ k. list_any (λ w. bytes_eq w s) (filter (λ w. length w == k) reserved)) h)

other : (k n : ℕ) → (n ≡ k → ⊥) → (k == n) ≡ false
other k n differ =
    elim (k == n) as (λ b. (k == n) ≡ b → b ≡ false) [
      | true ↦ λ t. absurd (differ (sym (eqb-true k n t)))
      | false ↦ λ _. refl
    ] refl

-- no word has another number of bytes
pub reserved-of_no_length : (n : ℕ) → (n ≡ 2 → ⊥) → (n ≡ 3 → ⊥) → (n ≡ 4 → ⊥) → (n ≡ 5 → ⊥) → (n ≡ 6 → ⊥) → (n ≡ 7 → ⊥) → (n ≡ 8 → ⊥) → (n ≡ 9 → ⊥) → (n ≡ 12 → ⊥)
    → filter (λ w. length w == n) reserved ≡ []
unfolding reserved
reserved-of_no_length n a b c d e f g h i = simp (other 2 n a, other 3 n b, other 4 n c, other 5 n d, other 6 n e, other 7 n f, other 8 n g, other 9 n h, other 12 n i)
