-- Bits that differ.
use Rattle.std.proofs.Common.{◌≡◌, ℕ, List, [], ◌∷◌, length, refl, ap, ◌∙◌, arith}
use Rattle.std.specs.Prelude.{◌==◌, bit_or, bit_xor, bytes_eq}
use Rattle.std.specs.Int.Bits.{or_add_and, xor_add_and, xor_self}
use Rattle.std.proofs.lemmas.Nat.{and_le_l, and_le_r}
use Rattle.std.proofs.lemmas.Bool.Decides.{Decides-eqb, same_from_decides}
use Rattle.std.proofs.lemmas.Slice.Eq.{bytes_eq-Decides}
use Rattle.iv_jwt.specs.Same.{difference}

or_none : (a b : ℕ) → bit_or a b ≡ 0 → (a ≡ 0) × (b ≡ 0)
or_none a b h = (omega (arith, or_add_and a b, and_le_l a b, and_le_r a b), omega (arith, or_add_and a b, and_le_l a b, and_le_r a b))

xor_none : (a b : ℕ) → bit_xor a b ≡ 0 → a ≡ b
xor_none a b h = omega (arith, xor_add_and a b, and_le_l a b, and_le_r a b)

difference_none : (f : ℕ) (xs ys : List ℕ) → length xs ≡ length ys → difference f xs ys ≡ 0 → (f ≡ 0) × (xs ≡ ys)
difference_none f [] [] h e = (e, refl)
difference_none f [] (y ∷ ys) h e = absurd (let no : ⊥ = omega (arith, h) in no)
difference_none f (x ∷ xs) [] h e = absurd (let no : ⊥ = omega (arith, h) in no)
difference_none f (x ∷ xs) (y ∷ ys) h e =
    let same : length xs ≡ length ys = omega (arith, h) in
    let rest = difference_none (bit_or f (bit_xor x y)) xs ys same e in
    let parts = or_none f (bit_xor x y) rest.0 in
    (parts.0, ap (λ z. z ∷ xs) (xor_none x y parts.1) ∙ ap (λ z. y ∷ z) rest.1)

difference_self : (xs : List ℕ) → difference 0 xs xs ≡ 0
difference_self [] = refl
difference_self (x ∷ xs) = ap (λ z. difference (bit_or 0 z) xs xs) (xor_self x) ∙ difference_self xs

none_of : (xs ys : List ℕ) → xs ≡ ys → difference 0 xs ys ≡ 0
none_of xs ys e = ap (λ z. difference 0 z ys) e ∙ difference_self ys

-- no bit differs exactly if they are the same
pub difference-bytes_eq : (xs ys : List ℕ) → length xs ≡ length ys → (difference 0 xs ys == 0) ≡ bytes_eq xs ys
difference-bytes_eq xs ys h =
    let some = Decides-eqb (difference 0 xs ys) 0 in
    same_from_decides _ _ (λ e. (difference_none 0 xs ys h (some.0 e)).1, λ e. some.1 (none_of xs ys e)) (bytes_eq-Decides xs ys)
