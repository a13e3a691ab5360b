-- Lists with a place for each number.
use Rattle.std.proofs.Common.{◌≡◌, ℕ, zero, suc, Bool, true, false, List, [], ◌∷◌, replicate, Option, Some, None, refl, subst}
use Rattle.std.specs.Prelude.{◌==◌}
use Rattle.std.proofs.lemmas.Bool.{eqb-true, eqb-false}
use Rattle.iv_clients.specs.Clients.{at_all, client_at, is_free}

pub not_Some-None : {X : Type 0} (a : X) → None ≡ Some a → ⊥
not_Some-None a h = cc h

-- what holds of one number and of each other holds of all
pub at_each_number : (P : ℕ → Type 0) (m : ℕ) → P m → ((n : ℕ) → (m ≡ n → ⊥) → P n) → (n : ℕ) → P n
at_each_number P m this others n = by (m == n) refl
  where
    by : (b : Bool) → (m == n) ≡ b → P n
    by true e = subst P (eqb-true m n e) this
    by false e = others n (eqb-false m n e)

pub is_free-at_all : {C : Type 0} (m : ℕ) (f : C → C) (xs : List (Option C)) → is_free m (at_all f xs) ≡ is_free m xs
is_free-at_all m f [] = refl
is_free-at_all zero f (None ∷ xs) = refl
is_free-at_all zero f (Some c ∷ xs) = refl
is_free-at_all (suc m) f (x ∷ xs) = is_free-at_all m f xs

pub client_at-replicate : {C : Type 0} (n m : ℕ) → client_at {C = C} (replicate n None) m ≡ None
client_at-replicate zero m = refl
client_at-replicate (suc n) zero = refl
client_at-replicate (suc n) (suc m) = client_at-replicate n m
