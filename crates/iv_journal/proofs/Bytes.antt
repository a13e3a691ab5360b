-- Bytes of lines: no newline and no zero byte in a digest's digits, and where lists are cut.
use Rattle.std.proofs.Common.{◌≡◌, ◌⊎◌, inl, inr, ℕ, zero, suc, ◌-◌, ◌/◌, ◌%◌, ◌<◌, ◌≤◌, Bool, true, false, ◌||◌, ◌&&◌, List, [], ◌∷◌, ◌++◌, drop, take, get_or, length, lit≤, refl, ap, ◌∙◌, sym, arith}
use Rattle.std.specs.Prelude.{◌==◌, bytes_eq, nat_lt, not, slice_index}
use Rattle.std.specs.List.{AllByRecursion, list_any}
use Rattle.std.specs.Int.{byte_at, to_be_bytes, w32}
use Rattle.std.proofs.lemmas.Bool.{false≢true}
use Rattle.std.proofs.lemmas.Bool.Decides.{nat_tests}
use Rattle.std.proofs.lemmas.Slice.Eq.{bytes_eq-Decides}
use Rattle.hex.specs.Hex.{encode_with, lower_digits}
use Rattle.sha2.specs.Sha256.{digest_bytes, sha256}

-- ---- tests

pub neither : (b c : Bool) → (b || c) ≡ false → (b ≡ false) × (c ≡ false)
neither true c h = absurd (false≢true (sym h))
neither false c h = (refl, h)

pub and-both_true : (b c : Bool) → (b && c) ≡ true → (b ≡ true) × (c ≡ true)
and-both_true true c h = (refl, h)
and-both_true false c h = absurd (false≢true h)

pub false-not : (b : Bool) → not b ≡ true → b ≡ false
false-not true h = sym h
false-not false h = refl

pub or_true : (b : Bool) → (b || true) ≡ true
or_true true = refl
or_true false = refl

pub same-bytes_eq : (x y : List ℕ) → bytes_eq x y ≡ true → x ≡ y
same-bytes_eq x y h = (bytes_eq-Decides x y).0 h

pub bytes_eq-itself : (x : List ℕ) → bytes_eq x x ≡ true
bytes_eq-itself x = (bytes_eq-Decides x x).1 refl

pub le-or_lt : (n m : ℕ) → (n ≤ m) ⊎ (suc m ≤ n)
le-or_lt n m = by (nat_lt m n) refl
  where
    less : (m n : ℕ) → nat_lt m n ≡ true → suc m ≤ n
    less m n e = grind (arith, nat_tests)

    most : (m n : ℕ) → nat_lt m n ≡ false → n ≤ m
    most m n e = grind (arith, nat_tests)

    by : (b : Bool) → nat_lt m n ≡ b → (n ≤ m) ⊎ (suc m ≤ n)
    by true e = inr (less m n e)
    by false e = inl (most m n e)

-- ---- bytes that a text has not

abbrev pub is_end : ℕ → Bool
is_end b = (b == 10) || (b == 0)

abbrev pub HasNone : (ℕ → Bool) → List ℕ → Type 0
HasNone p bytes = list_any p bytes ≡ false

abbrev pub HasNoNewline : List ℕ → Type 0
HasNoNewline bytes = HasNone (λ b. b == 10) bytes

pub HasNone-append : (p : ℕ → Bool) (xs ys : List ℕ) → HasNone p xs → HasNone p ys → HasNone p (xs ++ ys)
HasNone-append p [] ys h k = k
HasNone-append p (x ∷ xs) ys h k = let e = neither (p x) (list_any p xs) h in (λ i. e.0 i || HasNone-append p xs ys e.1 k i)

pub HasNone-take : (p : ℕ → Bool) (n : ℕ) (xs : List ℕ) → HasNone p xs → HasNone p (take n xs)
HasNone-take p zero xs h = refl
HasNone-take p (suc n) [] h = refl
HasNone-take p (suc n) (x ∷ xs) h = let e = neither (p x) (list_any p xs) h in (λ i. e.0 i || HasNone-take p n xs e.1 i)

pub HasNoNewline-HasNone : (bytes : List ℕ) → HasNone is_end bytes → HasNoNewline bytes
HasNoNewline-HasNone [] h = refl
HasNoNewline-HasNone (b ∷ bytes) h =
    let e = neither (is_end b) (list_any is_end bytes) h in
    let f = neither (b == 10) (b == 0) e.0 in
    (λ i. f.0 i || HasNoNewline-HasNone bytes e.1 i)

pub list_any-newline : (xs ys : List ℕ) → list_any (λ b. b == 10) (xs ++ 10 ∷ ys) ≡ true
list_any-newline [] ys = refl
list_any-newline (x ∷ xs) ys = ap (λ z. (x == 10) || z) (list_any-newline xs ys) ∙ or_true (x == 10)

none_at : (p : ℕ → Bool) (t : List ℕ) (i : ℕ) → i < length t → HasNone p t → p (get_or t i 0) ≡ false
none_at p [] i l h = absurd (let no : ⊥ = omega (arith, l) in no)
none_at p (x ∷ t) zero l h = (neither (p x) (list_any p t) h).0
none_at p (x ∷ t) (suc i) l h = none_at p t i (omega (arith, l)) (neither (p x) (list_any p t) h).1

abbrev AreBytes : List ℕ → Type 0
AreBytes bytes = AllByRecursion (λ b. b < 256) bytes

none_encode : (p : ℕ → Bool) (t bytes : List ℕ) → 16 ≤ length t → HasNone p t → AreBytes bytes → HasNone p (encode_with t bytes)
unfolding encode_with
none_encode p t [] w h a = refl
none_encode p t (b ∷ bytes) w h a =
    let small : b < 256 = a.0 in
    let high : b / 16 < length t = omega (arith, small, w) in
    let low : b % 16 < length t = omega (arith, w) in
    (λ i. none_at p t (b / 16) high h i || (none_at p t (b % 16) low h i || none_encode p t bytes w h a.1 i))

byte_small : (k x : ℕ) → byte_at k x < 256
byte_small zero x = omega arith
byte_small (suc i) x = omega arith

all_bytes : (xs ys : List ℕ) → AreBytes xs → AreBytes ys → AreBytes (xs ++ ys)
all_bytes [] ys a b = b
all_bytes (x ∷ xs) ys a b = (a.0, all_bytes xs ys a.1 b)

digest_small : (h : List ℕ) (n : ℕ) → AreBytes (digest_bytes h n)
unfolding digest_bytes
digest_small h zero = tt
digest_small h (suc n) =
    let x = slice_index h n in
    all_bytes (digest_bytes h n) (to_be_bytes w32 (slice_index h n)) (digest_small h n) (byte_small 3 x, (byte_small 2 x, (byte_small 1 x, (byte_small 0 x, tt))))

pub HasNone-encode_with : (m : List ℕ) → HasNone is_end (encode_with lower_digits (sha256 m))
unfolding sha256
HasNone-encode_with m = none_encode is_end lower_digits (sha256 m) (lit≤ tt) refl (digest_small _ 8)

-- ---- cutting

abbrev pub first : List ℕ → ℕ
first [] = 0
first (x ∷ xs) = x

-- up to the first newline
pub same-split_at_newline : (xs ys r s : List ℕ) → HasNoNewline xs → HasNoNewline ys → xs ++ 10 ∷ r ≡ ys ++ 10 ∷ s → (xs ≡ ys) × (r ≡ s)
same-split_at_newline [] [] r s h k e = (refl, ap (drop 1) e)
same-split_at_newline [] (y ∷ ys) r s h k e = absurd (false≢true (sym (neither (y == 10) (list_any (λ b. b == 10) ys) k).0 ∙ sym (ap (λ z. first z == 10) e)))
same-split_at_newline (x ∷ xs) [] r s h k e = absurd (false≢true (sym (neither (x == 10) (list_any (λ b. b == 10) xs) h).0 ∙ ap (λ z. first z == 10) e))
same-split_at_newline (x ∷ xs) (y ∷ ys) r s h k e =
    let p = same-split_at_newline xs ys r s (neither (x == 10) (list_any (λ b. b == 10) xs) h).1 (neither (y == 10) (list_any (λ b. b == 10) ys) k).1
    (ap (drop 1) e) in
    (λ i. first (e i) ∷ p.0 i, p.1)

pub drop-length : (xs ys : List ℕ) → drop (length xs) (xs ++ ys) ≡ ys
drop-length [] ys = refl
drop-length (x ∷ xs) ys = drop-length xs ys

pub take-append_short : (n : ℕ) (xs ys : List ℕ) → n ≤ length xs → take n (xs ++ ys) ≡ take n xs
take-append_short zero xs ys h = refl
take-append_short (suc n) [] ys h = absurd (let no : ⊥ = omega (arith, h) in no)
take-append_short (suc n) (x ∷ xs) ys h = ap (λ z. x ∷ z) (take-append_short n xs ys (omega (arith, h)))

pub take-append_long : (n : ℕ) (xs ys : List ℕ) → length xs ≤ n → take n (xs ++ ys) ≡ xs ++ take (n - length xs) ys
take-append_long n [] ys h = ap (λ m. take m ys) (let e : n ≡ n - 0 = omega arith in e)
take-append_long zero (x ∷ xs) ys h = absurd (let no : ⊥ = omega (arith, h) in no)
take-append_long (suc n) (x ∷ xs) ys h = ap (λ z. x ∷ z) (take-append_long n xs ys (omega (arith, h)) ∙ ap (λ m. xs ++ take m ys) (let e : n - length xs ≡ suc n - suc (length xs) = omega arith in e))
