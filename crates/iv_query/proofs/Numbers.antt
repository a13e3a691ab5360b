-- What std's parse gives of the digits in front.
use Rattle.std.proofs.Common.{◌≡◌, ℕ, ◌+◌, ◌<◌, ◌≤◌, ◌^◌, true, false, ltb, leb, List, [], ◌∷◌, length, get_or, take, drop, Result, Err, ℤ, pos, refl, subst, add-one, inl, inr, get_or-take, length-take, arith}
use Rattle.std.specs.Prelude.{IsTrue, neg_ℤ}
use Rattle.std.specs.Int.{w64, IsInRange}
use Rattle.std.specs.Char.{is_ascii_digit}
use Rattle.std.specs.List.{prefix_len}
use Rattle.std.specs.Result.{OkIff}
use Rattle.std.specs.Str.Parse.{digits_value, ParsesSigned}
use Rattle.std.proofs.lemmas.Bool.{le-ltb, lt-leb, cases_lt}
use Rattle.std.proofs.lemmas.Bool.Decides.{nat_tests}
use Rattle.std.proofs.lemmas.List.Sums.{prefix_len_passes}
use Rattle.std.specs.Str.{IsUtf8, IsCharBoundary}
use Rattle.std.proofs.lemmas.Str.{IsCharBoundary-from_rest}
use Rattle.iv_query.proofs.Bytes.{IsCharBoundary-prefix_len}
use Rattle.std.proofs.lemmas.Str.Parse.{numerals_by_value, tells_by_index, parse_signed_digits, parse_signed_minus}
use Rattle.iv_query.specs.Lexing.{Nothing, starts_letter, starts_digit, number_at, negative_at}

pub digit_range : (b : ℕ) → is_ascii_digit b ≡ true → IsInRange 48 57 b
digit_range b e = grind (arith, nat_tests)

pub lt-is_ascii_digit : (b : ℕ) → is_ascii_digit b ≡ true → b < 128
lt-is_ascii_digit b e = grind (arith, nat_tests)

all_digits : (bs : List ℕ) (i : ℕ) → i < length (take (prefix_len is_ascii_digit bs) bs) → IsInRange 48 57 (get_or (take (prefix_len is_ascii_digit bs) bs) i 0)
all_digits bs i lt =
    let below : i < prefix_len is_ascii_digit bs = omega (arith, length-take (prefix_len is_ascii_digit bs) bs) in
    rw (get_or-take (prefix_len is_ascii_digit bs) bs i 0 below) (digit_range (get_or bs i 0) (prefix_len_passes is_ascii_digit bs i 0 below))

-- the digits in front, if there is one
pub parsed : {E : Type 0} (bs : List ℕ) (r : Result ℤ E) → 0 < length (take (prefix_len is_ascii_digit bs) bs) → ParsesSigned w64 10 (take (prefix_len is_ascii_digit bs) bs) r
    → OkIff r ((0 < length (take (prefix_len is_ascii_digit bs) bs)) × (digits_value 10 (take (prefix_len is_ascii_digit bs) bs) < 2 ^ 63)) (pos (digits_value 10 (take (prefix_len is_ascii_digit bs) bs)))
parsed bs r some h = parse_signed_digits (numerals_by_value _ tells_by_index) w64 (take (prefix_len is_ascii_digit bs) bs) r h (all_digits bs)

pub lt-starts_digit : (bs : List ℕ) → IsTrue (starts_digit bs) → 0 < length (take (prefix_len is_ascii_digit bs) bs)
lt-starts_digit [] d = absurd cc
lt-starts_digit (b ∷ bs) d =
    let some : prefix_len is_ascii_digit (b ∷ bs) ≡ 1 + prefix_len is_ascii_digit bs = rw d refl in
    omega (arith, length-take (prefix_len is_ascii_digit (b ∷ bs)) (b ∷ bs), some)

pub number_at-Nothing : {E : Type 0} (bs : List ℕ) (e : E) → IsTrue (starts_digit bs) → starts_letter (drop (prefix_len is_ascii_digit bs) bs) ≡ false → ParsesSigned w64 10 (take (prefix_len is_ascii_digit bs) bs) (Err e)
    → Nothing ≡ number_at bs
unfolding number_at
number_at-Nothing bs e d l h =
    let p = parsed bs (Err e) (lt-starts_digit bs d) h in
    let v = digits_value 10 (take (prefix_len is_ascii_digit bs) bs) in
    let large : ltb v (2 ^ 63) ≡ false = elim (cases_lt v (2 ^ 63)) [ inl lt ↦ absurd (p (lt-starts_digit bs d, lt)) | inr le ↦ le-ltb v (2 ^ 63) le ] in
    rw (l, large) refl

-- what std's parse gives of a minus and the digits behind it
parsed_minus : {E : Type 0} (bs : List ℕ) (r : Result ℤ E) → ParsesSigned w64 10 (45 ∷ take (prefix_len is_ascii_digit bs) bs) r
    → OkIff r (((i : ℕ) → i < length (take (prefix_len is_ascii_digit bs) bs) → IsInRange 48 57 (get_or (take (prefix_len is_ascii_digit bs) bs) i 0)) × (0 < length (take (prefix_len is_ascii_digit bs) bs)) × (digits_value 10 (take (prefix_len is_ascii_digit bs) bs) ≤ 2 ^ 63)) (neg_ℤ (pos (digits_value 10 (take (prefix_len is_ascii_digit bs) bs))))
parsed_minus bs r h = parse_signed_minus (numerals_by_value _ tells_by_index) w64 (45 ∷ take (prefix_len is_ascii_digit bs) bs) r h refl

pub negative_at-Nothing : {E : Type 0} (text bs : List ℕ) (e : E) → text ≡ 45 ∷ bs → IsTrue (starts_digit bs) → starts_letter (drop (prefix_len is_ascii_digit bs) bs) ≡ false → ParsesSigned w64 10 (take (prefix_len is_ascii_digit bs + 1) text) (Err e)
    → Nothing ≡ negative_at bs
unfolding negative_at
negative_at-Nothing {E} text bs e whole d l h =
    let front : take (prefix_len is_ascii_digit bs + 1) text ≡ 45 ∷ take (prefix_len is_ascii_digit bs) bs = rw (whole, add-one) refl in
    let p = parsed_minus bs (Err e) (subst (λ (ds : List ℕ). ParsesSigned {E = E} w64 10 ds (Err e)) front h) in
    let v = digits_value 10 (take (prefix_len is_ascii_digit bs) bs) in
    let large : leb v (2 ^ 63) ≡ false = elim (cases_lt (2 ^ 63) v) [ inl gt ↦ lt-leb v (2 ^ 63) gt | inr le ↦ absurd (p (all_digits bs, lt-starts_digit bs d, le)) ] in
    rw (l, large) refl

-- where a minus and digits end
pub IsCharBoundary-minus : (text bs : List ℕ) → text ≡ 45 ∷ bs → IsUtf8 bs → IsCharBoundary text (prefix_len is_ascii_digit bs + 1)
IsCharBoundary-minus text bs whole u = rw whole (
    let b = IsCharBoundary-prefix_len is_ascii_digit lt-is_ascii_digit bs u in
    let at : IsCharBoundary (drop 1 (45 ∷ bs)) (prefix_len is_ascii_digit bs) = b in
    let k : 1 + prefix_len is_ascii_digit bs ≡ prefix_len is_ascii_digit bs + 1 = omega arith in
    let le : 1 ≤ length (45 ∷ bs) = omega arith in
    rw k at (IsCharBoundary-from_rest (45 ∷ bs) 1 (prefix_len is_ascii_digit bs) le at))
