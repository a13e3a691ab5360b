-- Lists, their places and numbers.
use Rattle.std.proofs.Common.{◌≡◌, ℕ, ◌<◌, true, false, List, [], ◌∷◌, ◌++◌, length, refl, sym, ap, subst, arith, zero, suc, get_or}
use Rattle.std.specs.Prelude.{◌==◌, slice_get}
use Rattle.std.specs.List.{AllByRecursion}
use Rattle.iv_rows.specs.Options.{if_some}
use Rattle.std.proofs.lemmas.Bool.Decides.{nat_tests}

pub AllByRecursion-map : {X : Type 0} (P Q : X → Type 0) (xs : List X) → ((x : X) → P x → Q x) → AllByRecursion P xs → AllByRecursion Q xs
AllByRecursion-map P Q [] h a = tt
AllByRecursion-map P Q (x ∷ xs) h a = (h x a.0, AllByRecursion-map P Q xs h a.1)

pub AllByRecursion-zip : {X : Type 0} (P Q R : X → Type 0) (xs : List X) → ((x : X) → P x → Q x → R x) → AllByRecursion P xs → AllByRecursion Q xs
    → AllByRecursion R xs
AllByRecursion-zip P Q R [] h a b = tt
AllByRecursion-zip P Q R (x ∷ xs) h a b = (h x a.0 b.0, AllByRecursion-zip P Q R xs h a.1 b.1)

pub is_self : (n : ℕ) → (n == n) ≡ true
is_self n = grind (arith, nat_tests)

pub eq-above : (m n : ℕ) → n < m → (m == n) ≡ false
eq-above m n l = grind (arith, nat_tests)

pub eq-below : (i m : ℕ) → m < i → (m == i) ≡ false
eq-below i m l = grind (arith, nat_tests)

pub append-push : {X : Type 0} (xs : List X) (x : X) (ys : List X) → xs ++ x ∷ ys ≡ (xs ++ x ∷ []) ++ ys
append-push [] x ys = refl
append-push (z ∷ xs) x ys = ap (λ zs. z ∷ zs) (append-push xs x ys)

pub get_or-any_default : {X : Type 0} (xs : List X) (i : ℕ) (a b : X) → i < length xs → get_or xs i a ≡ get_or xs i b
get_or-any_default [] i a b low = absurd (omega arith)
get_or-any_default (x ∷ xs) zero a b low = refl
get_or-any_default (x ∷ xs) (suc i) a b low = get_or-any_default xs i a b (omega arith)

pub if_some-slice_get : {X Y : Type 0} (f : X → Y) (none : Y) (xs : List X) (i : ℕ) (a : X) → i < length xs
    → if_some (slice_get xs i) none f ≡ f (get_or xs i a)
if_some-slice_get f none [] i a low = absurd (omega arith)
if_some-slice_get f none (x ∷ xs) zero a low = refl
if_some-slice_get f none (x ∷ xs) (suc i) a low = if_some-slice_get f none xs i a (omega arith)

pub AllByRecursion-get_or : {X : Type 0} (P : X → Type 0) (xs : List X) (i : ℕ) (x : X) → AllByRecursion P xs → i < length xs → x ≡ get_or xs i x → P x
AllByRecursion-get_or P [] i x h l at = absurd (omega arith)
AllByRecursion-get_or P (y ∷ ys) zero x h l at = subst P (sym at) h.0
AllByRecursion-get_or P (y ∷ ys) (suc i) x h l at = AllByRecursion-get_or P ys i x h.1 (omega arith) at
