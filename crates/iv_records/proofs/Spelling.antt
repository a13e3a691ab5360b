-- Numbers, strings and digests as the journal spells them are read back.
use Rattle.std.proofs.Common.{◌≡◌, ℕ, zero, suc, ◌<◌, ◌/◌, ◌%◌, ◌^◌, Bool, true, false, cond, ◌==◌, ◌&&◌, ◌||◌, List, [], ◌∷◌, length, Some, None, option_map, refl, ap, ◌∙◌, ◌≤◌, sym, append-nil, arith}
use Rattle.std.specs.Prelude.{MatchResult, Result, Ok, Err, decimal, nat_lt, option_and_then}
use Rattle.std.specs.Fmt.{digits, digits_onto, digit_glyph}
use Rattle.std.specs.List.{list_all, slice_index}
use Rattle.std.specs.Str.{is_utf8}
use Rattle.std.proofs.lemmas.Bool.{eq-eqb, eqb-true, lt-ltb, ltb-true}
use Rattle.std.proofs.lemmas.Bool.Decides.{nat_tests}
use Rattle.std.proofs.lemmas.Fmt.{IsAscii-decimal}
use Rattle.std.proofs.lemmas.List.Sums.{list_all-from_AllPass}
use Rattle.std.proofs.lemmas.Str.{IsUtf8-from_ascii, IsUtf8-from_is_utf8, is_utf8-from_IsUtf8}
use Rattle.hex.specs.Hex.{IsBytes, decode_sized, encode_lower, is_hex_digit}
use Rattle.hex.specs.declared.error.FromHexError.{FromHexError}
use Rattle.hex.proofs.HexLemmas.{decode_of-encode_lower, decode_of-ok, decode_sized-encode_lower, decode_sized-ok, decode_sized-twice}
use Rattle.json.specs.Token as token
use Rattle.json.specs.Json as json
use Rattle.json.specs.Lex.{tokens}
use Rattle.json.specs.Tree.{depth, json_tokens}
use Rattle.json.specs.Print.{ArePrintable, escape, quoted}
use Rattle.json.proofs.Printed.Decimals.{IsNumber-decimal}
use Rattle.json.proofs.Printed.Tokens.{tokens-print}
use Rattle.json.proofs.Printed.Trees.{value-json_tokens}
use Rattle.json.proofs.Printed.Utf8.{IsUtf8-quoted}
use Rattle.serde_json.specs.Data.{number, string, unsigned}
use Rattle.serde_json.specs.Find.{as_number, as_str, as_u64}
use Rattle.serde_json.specs.Read.{max_depth, of_json, read}
use Rattle.serde_json.proofs.Numbers.{number_of-decimal}
use Rattle.serde_json.proofs.Texts.{print-outline}
use Rattle.iv_message.specs.Message.{id_in}
use Rattle.iv_request.specs.Reading.{value_of}
use Rattle.iv_request.specs.Request.{passing}
use Rattle.iv_records.specs.Journal.{is_digest}
use Rattle.iv_records.specs.Names.{count_in, is_count}
use Rattle.iv_records.specs.Parsed.{digest_of_32, string_in}
use Rattle.iv_records.specs.Cuts.{decoded}
use Rattle.iv_records.proofs.CutParts.{HasNo, and-both_true, passing-true, HasNo-list_all}

-- a text of the tokens of a value is read as that
read_one : (text : List ℕ) (j : json.Json) → tokens text ≡ json_tokens j → depth j ≤ max_depth → read text ≡ of_json j
read_one text j same shallow =
    ap (λ ts. option_and_then of_json (option_and_then (λ (p : json.Json × List token.Token). json.if_last p.0 p.1) (json.value max_depth ts))) (same ∙ sym (append-nil (json_tokens j)))
    ∙ ap (λ o. option_and_then of_json (option_and_then (λ (p : json.Json × List token.Token). json.if_last p.0 p.1) o)) (value-json_tokens j max_depth [] shallow)

-- ---- numbers

printable_number : (n : ℕ) → n < 2 ^ 64 → ArePrintable (token.number (decimal n) ∷ [])
unfolding ArePrintable
printable_number n h = (IsNumber-decimal n h, tt)

read_number : (n : ℕ) → n < 2 ^ 64 → read (decimal n) ≡ Some (number (unsigned n))
read_number n h =
    let ts = token.number (decimal n) ∷ [] in
    let same : tokens (decimal n) ≡ ts = ap tokens (sym (print-outline (number (unsigned n)))) ∙ tokens-print ts (printable_number n h) in
    read_one (decimal n) (json.number (decimal n)) same (omega arith) ∙ ap (option_map number) (number_of-decimal n h)

value_of_number : (n : ℕ) → n < 2 ^ 64 → value_of (decimal n) ≡ Some (number (unsigned n))
value_of_number n h =
    ap (λ b. cond b (read (decimal n)) None) (is_utf8-from_IsUtf8 (decimal n) (IsUtf8-from_ascii (decimal n) (IsAscii-decimal n h))) ∙ read_number n h

pub count_in-decimal : (n : ℕ) → is_count n ≡ true → count_in (decimal n) ≡ Some n
count_in-decimal n h =
    ap (λ o. option_and_then (passing is_count) (option_and_then as_u64 (option_and_then as_number (option_and_then id_in o)))) (value_of_number n (ltb-true n (2 ^ 64) h))
    ∙ passing-true is_count n h

-- no quotation mark and no brace is a digit
glyph_no_quote : (n : ℕ) → (digit_glyph false (n % 10) == 34) ≡ false
glyph_no_quote n = grind (arith, nat_tests)

glyph_no_brace : (n : ℕ) → (digit_glyph false (n % 10) == 125) ≡ false
glyph_no_brace n = grind (arith, nat_tests)

onto_none : (b : ℕ) → ((n : ℕ) → (digit_glyph false (n % 10) == b) ≡ false) → (k n : ℕ) (acc : List ℕ) → HasNo b acc → HasNo b (digits_onto k 10 false n acc)
onto_none b f zero n acc h = h
onto_none b f (suc k) n acc h =
    let more : HasNo b (digit_glyph false (n % 10) ∷ acc) = (λ i. f n i || h i) in
    part more (onto_none b f k (n / 10) (digit_glyph false (n % 10) ∷ acc) more) (n / 10 == 0)
  where
    part : HasNo b (digit_glyph false (n % 10) ∷ acc) → HasNo b (digits_onto k 10 false (n / 10) (digit_glyph false (n % 10) ∷ acc)) → (t : Bool)
        → HasNo b (cond t (digit_glyph false (n % 10) ∷ acc) (digits_onto k 10 false (n / 10) (digit_glyph false (n % 10) ∷ acc)))
    part last more true = last
    part last more false = more

pub HasNo-decimal_quote : (n : ℕ) → HasNo 34 (decimal n)
unfolding digits
HasNo-decimal_quote n = onto_none 34 glyph_no_quote 64 n [] refl

pub HasNo-decimal_brace : (n : ℕ) → HasNo 125 (decimal n)
unfolding digits
HasNo-decimal_brace n = onto_none 125 glyph_no_brace 64 n [] refl

-- ---- strings

printable_string : (s : List ℕ) → ArePrintable (token.string s ∷ [])
unfolding ArePrintable
printable_string s = (tt, tt)

read_string : (s : List ℕ) → read (quoted s) ≡ Some (string s)
read_string s =
    let ts = token.string s ∷ [] in
    let same : tokens (quoted s) ≡ ts = ap tokens (sym (print-outline (string s))) ∙ tokens-print ts (printable_string s) in
    read_one (quoted s) (json.string s) same (omega arith)

value_of_string : (s : List ℕ) → is_utf8 s ≡ true → value_of (quoted s) ≡ Some (string s)
value_of_string s h = ap (λ b. cond b (read (quoted s)) None) (is_utf8-from_IsUtf8 (quoted s) (IsUtf8-quoted s (IsUtf8-from_is_utf8 s h))) ∙ read_string s

pub string_in-escape : (s : List ℕ) → is_utf8 s ≡ true → string_in (escape s) ≡ Some s
string_in-escape s h = ap (λ o. option_and_then (passing is_utf8) (option_and_then as_str o)) (value_of_string s h) ∙ passing-true is_utf8 s h

-- ---- digests

bytes_by : (xs : List ℕ) → list_all (λ b. nat_lt b 256) xs ≡ true → IsBytes xs
bytes_by [] h = λ i. omega arith
bytes_by (x ∷ xs) h = let p = and-both_true (nat_lt x 256) (list_all (λ b. nat_lt b 256) xs) h in λ i. at i p.0 (λ j. bytes_by xs p.1 j)
  where
    at : (i : ℕ) → nat_lt x 256 ≡ true → ((j : ℕ) → slice_index xs j < 256) → slice_index (x ∷ xs) i < 256
    at zero f more = ltb-true x 256 f
    at (suc i) f more = more i

pub record IsDigest (digest : List ℕ) : Type 0 where
  pub length : length digest ≡ 32
  pub bytes : IsBytes digest

pub digest_by : (digest : List ℕ) → is_digest digest ≡ true → IsDigest digest
digest_by digest h =
    let p = and-both_true (length digest == 32) (list_all (λ b. nat_lt b 256) digest) h in
    record { length = eqb-true (length digest) 32 p.0; bytes = bytes_by digest p.1 }

pub digest_of_32-encode_lower : (digest : List ℕ) → is_digest digest ≡ true → digest_of_32 (encode_lower digest) ≡ Some digest
digest_of_32-encode_lower digest h =
    let d = digest_by digest h in
    ap (λ r. option_and_then (passing is_digest) (decoded r)) (decode_sized-encode_lower digest 32 d.length d.bytes) ∙ passing-true is_digest digest h

pub HasNo-encode_lower : (digest : List ℕ) → is_digest digest ≡ true → HasNo 34 (encode_lower digest)
HasNo-encode_lower digest h =
    let ok = decode_of-ok (encode_lower digest) digest (decode_of-encode_lower digest (digest_by digest h).bytes) in
    HasNo-list_all is_hex_digit 34 refl (encode_lower digest) (list_all-from_AllPass is_hex_digit (encode_lower digest) ok.1)

all_bytes : (xs : List ℕ) → IsBytes xs → list_all (λ b. nat_lt b 256) xs ≡ true
all_bytes [] h = refl
all_bytes (x ∷ xs) h = (λ i. lt-ltb x 256 (h 0) i && all_bytes xs (λ j. h (suc j)) i)

digest_whole : (digits bytes : List ℕ) → decode_sized digits 32 ≡ Ok bytes → digest_of_32 digits ≡ Some bytes
digest_whole digits bytes h =
    let twice = decode_sized-ok digits 32 bytes h in
    let ok = decode_of-ok digits bytes (sym (decode_sized-twice digits 32 twice) ∙ h) in
    let size : length bytes ≡ 32 = omega (arith, twice, ok.2) in
    ap (λ r. option_and_then (passing is_digest) (decoded r)) h ∙ passing-true is_digest bytes (λ i. eq-eqb (length bytes) 32 size i && all_bytes bytes ok.3 i)

-- what is decoded into room for it
pub digest_of_32-decode_sized : (digits out : List ℕ) (u : Unit {0}) (r : Result (List ℕ) FromHexError) → decode_sized digits 32 ≡ r
    → MatchResult r (λ bytes. (◌≡◌ {A = Result (Unit {0}) FromHexError} (Ok u) (Ok tt)) × (out ≡ bytes)) (λ e. ◌≡◌ {A = Result (Unit {0}) FromHexError} (Ok u) (Err e))
    → Some out ≡ digest_of_32 digits
digest_of_32-decode_sized digits out u (Ok bytes) h m = sym (digest_whole digits out (h ∙ ap Ok (sym m.1)))
digest_of_32-decode_sized digits out u (Err e) h m = absurd (not_err u e m)
  where
    not_err : (u : Unit {0}) (e : FromHexError) → ◌≡◌ {A = Result (Unit {0}) FromHexError} (Ok u) (Err e) → ⊥
    not_err u e k = cc k
