-- Texts with notes, and what is read of them: no quotation mark is in a number or in a name.
use Rattle.std.proofs.Common.{◌≡◌, ℕ, zero, suc, ◌/◌, ◌%◌, ◌<◌, ◌^◌, Bool, true, false, cond, ◌||◌, List, [], ◌∷◌, ◌++◌, append_assoc, codes, drop, get_or, Option, None, Some, IfSome, refl, ap, ◌∙◌, sym, subst, arith}
use Rattle.std.specs.Prelude.{◌==◌, decimal, nat_lt}
use Rattle.std.specs.List.{list_any}
use Rattle.std.specs.Str.Parse.{AllDigits}
use Rattle.std.specs.Char.{digit_value}
use Rattle.std.proofs.lemmas.Bool.{false≢true, eqb-true}
use Rattle.std.proofs.lemmas.Fmt.{decimal_is_IsNumeral}
use Rattle.hex.specs.Hex.{encode_lower, encode_with, lower_digits}
use Rattle.iv_audit.specs.Audit.{Note, escaped, escaped_byte, is_escaped, is_noted, note_text, text_by}
use Rattle.iv_audit.specs.Reading.{behind_first, text_in}
use Rattle.iv_audit.specs.Laws.{TextsKeepLines}

pub or-both_false : (b c : Bool) → (b || c) ≡ false → (b ≡ false) × (c ≡ false)
or-both_false true c h = absurd (false≢true (sym h))
or-both_false false c h = (refl, h)

abbrev pub HasNone : ℕ → List ℕ → Type 0
HasNone b bytes = list_any (λ x. x == b) bytes ≡ false

pub HasNone-append : (b : ℕ) (xs ys : List ℕ) → HasNone b xs → HasNone b ys → HasNone b (xs ++ ys)
HasNone-append b [] ys h k = k
HasNone-append b (x ∷ xs) ys h k = let e = or-both_false (x == b) (list_any (λ z. z == b) xs) h in (λ i. e.0 i || HasNone-append b xs ys e.1 k i)

-- ---- numbers

quote_is_no_digit : (c : ℕ) → digit_value c < 10 → (b : Bool) → (c == 34) ≡ b → b ≡ false
quote_is_no_digit c h false e = refl
quote_is_no_digit c h true e = absurd (let k : 36 < 10 = subst (λ (x : ℕ). digit_value x < 10) (eqb-true c 34 e) h in omega (arith, k))

none_digits : (ds : List ℕ) → AllDigits 10 ds → HasNone 34 ds
none_digits [] a = refl
none_digits (c ∷ ds) a = (λ i. quote_is_no_digit c a.0 (c == 34) refl i || none_digits ds a.1 i)

none_decimal : (n : ℕ) → n < 2 ^ 64 → HasNone 34 (decimal n)
none_decimal n h = none_digits (decimal n) (decimal_is_IsNumeral n h).0.1

-- ---- names

none_at : (t : List ℕ) (i : ℕ) → HasNone 34 t → (get_or t i 0 == 34) ≡ false
none_at [] i h = refl
none_at (x ∷ t) zero h = (or-both_false (x == 34) (list_any (λ b. b == 34) t) h).0
none_at (x ∷ t) (suc i) h = none_at t i (or-both_false (x == 34) (list_any (λ b. b == 34) t) h).1

none_encoded : (b : ℕ) → HasNone 34 (encode_lower (b ∷ []))
unfolding encode_with
none_encoded b = (λ i. none_at lower_digits (b / 16) refl i || (none_at lower_digits (b % 16) refl i || false))

none_byte_by : (b : ℕ) (c : Bool) → is_escaped b ≡ c → HasNone 34 (cond c (codes "\\u00" ++ encode_lower (b ∷ [])) (b ∷ []))
none_byte_by b true e = none_encoded b
none_byte_by b false e =
    let f = or-both_false (nat_lt b 32) ((b == 34) || (b == 92)) e in
    let g = or-both_false (b == 34) (b == 92) f.1 in
    ap (λ z. z || false) g.0

none_byte : (b : ℕ) → HasNone 34 (escaped_byte b)
none_byte b = none_byte_by b (is_escaped b) refl

none_escaped : (name : List ℕ) → HasNone 34 (escaped name)
none_escaped [] = refl
none_escaped (b ∷ name) = HasNone-append 34 (escaped_byte b) (escaped name) (none_byte b) (none_escaped name)

-- ---- reading

skip : (b : ℕ) (xs ys : List ℕ) → HasNone b xs → behind_first b (xs ++ ys) ≡ behind_first b ys
skip b [] ys h = refl
skip b (x ∷ xs) ys h =
    let e = or-both_false (x == b) (list_any (λ z. z == b) xs) h in
    ap (λ z. cond z (xs ++ ys) (behind_first b (xs ++ ys))) e.0 ∙ skip b xs ys e.1

noted : (n : Note) (e : List ℕ) → n.at < 2 ^ 64 → text_in (note_text n ++ e) ≡ e
noted n e h =
    let name = escaped n.holder in
    ap (λ z. drop 1 (behind_first 34 (drop 5 (behind_first 34 z)))) (append_assoc (decimal n.at) (codes ",\"by\":\"" ++ (escaped n.holder ++ codes "\",")) e)
    ∙ (ap (λ z. drop 1 (behind_first 34 (drop 5 z))) (skip 34 (decimal n.at) ((codes ",\"by\":\"" ++ (escaped n.holder ++ codes "\",")) ++ e) (none_decimal n.at h))
    ∙ (ap (λ z. drop 1 (behind_first 34 z)) (append_assoc (escaped n.holder) (codes "\",") e)
    ∙ ap (drop 1) (skip 34 (escaped n.holder) (codes "\"," ++ e) (none_escaped n.holder))))

pub text_in-not_noted : (e : List ℕ) → is_noted e ≡ false → text_in e ≡ e
text_in-not_noted e h = ap (λ z. cond z (drop 1 (behind_first 34 (drop 5 (behind_first 34 (drop 5 e))))) e) h

pub text_in-text_by : (o : Option Note) (e : List ℕ) → is_noted e ≡ false → IfSome o (λ n. n.at < 2 ^ 64) → text_in (text_by o e) ≡ e
text_in-text_by None e h k = text_in-not_noted e h
text_in-text_by (Some n) e h k = noted n e k

pub TextsKeepLines-text_in : TextsKeepLines
TextsKeepLines-text_in w h = ap (λ z. record { is_last = w.line.is_last; text = z }) (text_in-text_by w.note w.line.text h.line h.at)
