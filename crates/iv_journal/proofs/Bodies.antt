-- Lines: where one ends, what it says, and what is none.
use Rattle.std.proofs.Common.{◌≡◌, ◌⊎◌, inl, inr, ℕ, ◌+◌, Bool, true, false, ◌||◌, ◌&&◌, List, [], ◌∷◌, ◌++◌, append_assoc, codes, drop, take, length, length-append, refl, ap, ◌∙◌, sym, arith}
use Rattle.std.specs.Prelude.{◌==◌, bytes_eq, nat_le}
use Rattle.std.specs.List.{list_any}
use Rattle.std.proofs.lemmas.Bool.{false≢true, eqb-true}
use Rattle.hex.specs.Hex.{encode_lower, lower_digits}
use Rattle.hex.proofs.HexLemmas.{length-encode_with}
use Rattle.sha2.proofs.Facts256.{length-sha256}
use Rattle.iv_journal.specs.Journal.{Line, body_of, digest_of, is_plain, is_text, mark, most_text}
use Rattle.iv_journal.specs.Reading.{BeginsNoLine}
use Rattle.iv_journal.proofs.Bytes.{HasNone, HasNoNewline, and-both_true, bytes_eq-itself, drop-length, is_end, list_any-newline, HasNone-encode_with, HasNoNewline-HasNone, HasNone-append, false-not, same-bytes_eq, same-split_at_newline}

-- ---- a line has no newline within

no_mark : (b : Bool) → HasNone is_end (mark b)
no_mark true = refl
no_mark false = refl

pub HasNone-body_of : (d : List ℕ) (l : Line) → is_text l.text ≡ true → HasNone is_end (body_of d l)
HasNone-body_of d l h =
    HasNone-append is_end (mark l.is_last) (encode_lower (digest_of d l) ++ (codes "\"," ++ l.text)) (no_mark l.is_last)
    (HasNone-append is_end (encode_lower (digest_of d l)) (codes "\"," ++ l.text) (HasNone-encode_with (d ++ (mark l.is_last ++ l.text)))
    (HasNone-append is_end (codes "\",") l.text refl
    (false-not (list_any is_end l.text) (and-both_true (is_plain l.text) (nat_le (length l.text) most_text) h).0)))

pub HasNoNewline-body_of : (d : List ℕ) (l : Line) → is_text l.text ≡ true → HasNoNewline (body_of d l)
HasNoNewline-body_of d l h = HasNoNewline-HasNone (body_of d l) (HasNone-body_of d l h)

-- ---- what stands before the text

abbrev pub front_of : List ℕ → Line → List ℕ
front_of d l = mark l.is_last ++ (encode_lower (digest_of d l) ++ codes "\",")

pub body_front : (d : List ℕ) (l : Line) → body_of d l ≡ front_of d l ++ l.text
body_front d l =
    ap (λ z. mark l.is_last ++ z) (sym (append_assoc (encode_lower (digest_of d l)) (codes "\",") l.text))
    ∙ sym (append_assoc (mark l.is_last) (encode_lower (digest_of d l) ++ codes "\",") l.text)

length_mark : (b : Bool) → length (mark b) ≡ 9
length_mark true = refl
length_mark false = refl

pub length_front : (d : List ℕ) (l : Line) → length (front_of d l) ≡ 75
length_front d l =
    let digits = encode_lower (digest_of d l) in
    let a = length-append (mark l.is_last) (encode_lower (digest_of d l) ++ codes "\",") in
    let b = length-append (encode_lower (digest_of d l)) (codes "\",") in
    let c = length-encode_with lower_digits (digest_of d l) in
    let e = length-sha256 (d ++ (mark l.is_last ++ l.text)) in
    let f = length_mark l.is_last in
    let g : length (codes "\",") ≡ 2 = refl in
    omega (arith, a, b, c, e, f, g)

pub length-body_of : (d : List ℕ) (l : Line) → length (body_of d l) ≡ 75 + length l.text
length-body_of d l =
    let a = ap length (body_front d l) in
    let b = length-append (front_of d l) l.text in
    let c = length_front d l in
    omega (arith, a, b, c)

pub drop-body_of : (d : List ℕ) (l : Line) → drop 75 (body_of d l) ≡ l.text
drop-body_of d l =
    ap (drop 75) (body_front d l)
    ∙ (ap (λ n. drop n (front_of d l ++ l.text)) (sym (length_front d l)) ∙ drop-length (front_of d l) l.text)

-- ---- one line for a body

abbrev third : List ℕ → ℕ
third (a ∷ b ∷ c ∷ xs) = c
third _ = 0

pub same-mark : (b c : Bool) (x y : List ℕ) → mark b ++ x ≡ mark c ++ y → b ≡ c
same-mark true true x y e = refl
same-mark false false x y e = refl
same-mark true false x y e = absurd (false≢true (ap (λ z. third z == 112) e))
same-mark false true x y e = absurd (false≢true (ap (λ z. third z == 108) e))

pub same_line : (d : List ℕ) (l m : Line) → body_of d l ≡ body_of d m → l ≡ m
same_line d l m e =
    let kind = same-mark l.is_last m.is_last (encode_lower (digest_of d l) ++ (codes "\"," ++ l.text)) (encode_lower (digest_of d m) ++ (codes "\"," ++ m.text)) e in
    let text = sym (drop-body_of d l) ∙ (ap (drop 75) e ∙ drop-body_of d m) in
    (λ i. record { is_last = kind i; text = text i })

pub same-body_of : (d : List ℕ) (l m : Line) (r s : List ℕ) → is_text l.text ≡ true → is_text m.text ≡ true
    → body_of d l ++ 10 ∷ r ≡ body_of d m ++ 10 ∷ s → (l ≡ m) × (r ≡ s)
same-body_of d l m r s a b e =
    let p = same-split_at_newline (body_of d l) (body_of d m) r s (HasNoNewline-body_of d l a) (HasNoNewline-body_of d m b) e in
    (same_line d l m p.0, p.1)

-- ---- what is no line

pub BeginsNoLine-HasNoNewline : (d rest : List ℕ) → HasNoNewline rest → BeginsNoLine d rest
BeginsNoLine-HasNoNewline d rest h = λ l after t e. false≢true (sym h ∙ (ap (list_any (λ b. b == 10)) e ∙ list_any-newline (body_of d l) after))

-- the line that a body would be
abbrev pub line_in : List ℕ → Line
line_in body = record { is_last = bytes_eq (take 9 body) (mark true); text = drop 75 body }

abbrev pub is_body : List ℕ → List ℕ → Bool
is_body d body = bytes_eq body (body_of d (line_in body)) && is_text (drop 75 body)

mark_told : (b : Bool) (x : List ℕ) → bytes_eq (take 9 (mark b ++ x)) (mark true) ≡ b
mark_told true x = refl
mark_told false x = refl

pub line_told : (d : List ℕ) (l : Line) → line_in (body_of d l) ≡ l
line_told d l =
    let kind = mark_told l.is_last (encode_lower (digest_of d l) ++ (codes "\"," ++ l.text)) in
    (λ i. record { is_last = kind i; text = drop-body_of d l i })

pub body_told : (d : List ℕ) (l : Line) → is_text l.text ≡ true → is_body d (body_of d l) ≡ true
body_told d l h =
    (λ i. bytes_eq (body_of d l) (body_of d (line_told d l i)) && is_text (drop-body_of d l i))
    ∙ ((λ i. bytes_eq-itself (body_of d l) i && h i))

pub BeginsNoLine-not_is_body : (d body rest : List ℕ) → HasNoNewline body → is_body d body ≡ false → BeginsNoLine d (body ++ 10 ∷ rest)
BeginsNoLine-not_is_body d body rest h n = λ l after t e.
    let p = same-split_at_newline body (body_of d l) rest after h (HasNoNewline-body_of d l t) e in
    false≢true (sym n ∙ (ap (is_body d) p.0 ∙ body_told d l t))

-- ---- the next line

pub record NextLine (d rest : List ℕ) : Type 0 where
  pub line : Line
  pub after : List ℕ
  pub text : is_text line.text ≡ true
  pub bytes : rest ≡ body_of d line ++ 10 ∷ after

record CutLine (rest : List ℕ) : Type 0 where
  body : List ℕ
  after : List ℕ
  none : HasNoNewline body
  bytes : rest ≡ body ++ 10 ∷ after

cut_line : (rest : List ℕ) → HasNoNewline rest ⊎ CutLine rest
cut_line [] = inl refl
cut_line (b ∷ rest) = by (b == 10) refl (cut_line rest)
  where
    by : (c : Bool) → (b == 10) ≡ c → HasNoNewline rest ⊎ CutLine rest → HasNoNewline (b ∷ rest) ⊎ CutLine (b ∷ rest)
    by true e s = inr (record { body = []; after = rest; none = refl; bytes = λ i. eqb-true b 10 e i ∷ rest })
    by false e (inl h) = inl (λ i. e i || h i)
    by false e (inr c) = inr (record { body = b ∷ c.body; after = c.after; none = λ i. e i || c.none i; bytes = ap (λ z. b ∷ z) c.bytes })

pub NextLine-or_BeginsNoLine : (d rest : List ℕ) → NextLine d rest ⊎ BeginsNoLine d rest
NextLine-or_BeginsNoLine d rest = by (cut_line rest)
  where
    is : (c : CutLine rest) (b : Bool) → is_body d c.body ≡ b → NextLine d rest ⊎ BeginsNoLine d rest
    is c true e =
        let h = and-both_true (bytes_eq c.body (body_of d (line_in c.body))) (is_text (drop 75 c.body)) e in
        inl (record {
          line = line_in c.body;
          after = c.after;
          text = h.1;
          bytes = c.bytes ∙ ap (λ z. z ++ 10 ∷ c.after) (same-bytes_eq c.body (body_of d (line_in c.body)) h.0);
        })
    is c false e = inr (λ l after t f. BeginsNoLine-not_is_body d c.body c.after c.none e l after t (sym c.bytes ∙ f))

    by : HasNoNewline rest ⊎ CutLine rest → NextLine d rest ⊎ BeginsNoLine d rest
    by (inl h) = inr (BeginsNoLine-HasNoNewline d rest h)
    by (inr c) = is c (is_body d c.body) refl
