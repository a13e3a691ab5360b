-- What a text of digits alone is as a number.
use Rattle.std.proofs.Common.{◌≡◌, ◌∙◌, ℕ, zero, suc, pos, neg_ℤ, ◌^◌, ◌<◌, ◌≤◌, ◌+◌, ◌*◌, ◌%◌, List, take, get_or, [], ◌++◌, length, true, false, Some, refl, sym, ap, arith, append-nil, lt-ltb, le-leb, ne_eqb, ◌==◌, length-take}
use Rattle.std.specs.Str.Parse.{AllDigits, IsNumeral, digits_value}
use Rattle.std.proofs.lemmas.Str.Parse.{IsNumeralModel, numerals_by_value, tells_digits, digit_at, digits_value_short}
use Rattle.std.proofs.lemmas.Str.{digit_value_digit}
use Rattle.std.proofs.lemmas.Int.Digits.{digits_value_more, digits_more}
use Rattle.fast_float.specs.Text.{Parts, scan, with_sign, IsWellFormed}
use Rattle.fast_float.proofs.Writing.{scan-text_of}
use Rattle.serde_json.specs.Data.{unsigned, negative}
use Rattle.serde_json.specs.Read.{number_from, number_of}
use Rattle.serde_json.specs.Find.{of_integer}

own : IsNumeralModel (AllDigits 10) (digits_value 10)
own = numerals_by_value (AllDigits 10) tells_digits

-- one digit digits_value-take_next
pub digits_value-take_next : (bs : List ℕ) (i : ℕ) → i < length bs → AllDigits 10 (take i bs) → (get_or bs i 0 + 208) % 256 ≤ 9 → get_or bs i 0 < 256
    → (digits_value 10 (take i bs) * 10 + (get_or bs i 0 + 208) % 256 ≡ digits_value 10 (take (i + 1) bs)) × AllDigits 10 (take (i + 1) bs)
digits_value-take_next bs i h all digit byte =
    let is = digit_value_digit (get_or bs i 0) (omega arith) in
    (omega (arith, digits_value_more 10 bs i h), digits_more 10 bs i h all (omega arith))

pub lt-digits_value : (bs : List ℕ) (i k : ℕ) → AllDigits 10 (take i bs) → i ≤ k → digits_value 10 (take i bs) < 10 ^ k
lt-digits_value bs i k h le = digits_value_short own (take i bs) k h (omega (arith, length-take i bs))

abbrev written : List ℕ → Parts
written ds = record { whole = ds; point = false; fraction = []; exponent_negative = false; exponent = []; len = length (ds ++ []) }

scan_digits : (ds : List ℕ) → AllDigits 10 ds → scan ds ≡ written ds
scan_digits ds h =
    let formed : IsWellFormed (written ds) = record { whole_digits = h; fraction_digits = tt; exponent_digits = tt; no_point = λ _. refl; no_exponent = λ _. refl; len_is = refl } in
    ap scan (sym (append-nil ds)) ∙ scan-text_of (written ds) formed

no_minus : (ds : List ℕ) → IsNumeral 10 ds → (get_or ds 0 0 == 45) ≡ false
no_minus ds h = ne_eqb _ 45 (λ e. omega (arith, e, digit_at ds 0 h.1 h.0))

pub unsigned_is : (ds : List ℕ) → IsNumeral 10 ds → length ds ≤ 18 → number_of ds ≡ Some (unsigned (digits_value 10 ds))
unfolding number_of
unsigned_is ds h le =
    let fits : digits_value 10 ds < 2 ^ 64 = omega (arith, digits_value_short own ds 18 h.1 le) in
    rw (no_minus ds h) (ap (number_from false) (scan_digits ds h.1) ∙ rw (append-nil ds) (rw (lt-ltb _ _ h.0, lt-ltb _ _ fits)))

minus_is : (n : ℕ) → 0 < n → negative (with_sign true n) ≡ of_integer (neg_ℤ (pos n))
minus_is zero h = absurd (omega arith)
minus_is (suc n) h = refl

pub number_from-negative : (ds : List ℕ) → IsNumeral 10 ds → length ds ≤ 18 → 0 < digits_value 10 ds
    → number_from true (scan ds) ≡ Some (of_integer (neg_ℤ (pos (digits_value 10 ds))))
number_from-negative ds h le some =
    let fits : digits_value 10 ds ≤ 2 ^ 63 = omega (arith, digits_value_short own ds 18 h.1 le) in
    ap (number_from true) (scan_digits ds h.1) ∙ rw (append-nil ds) (rw (lt-ltb _ _ h.0, lt-ltb _ _ some, le-leb _ _ fits)) ∙ ap Some (minus_is (digits_value 10 ds) some)
