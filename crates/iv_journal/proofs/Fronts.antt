-- What stands before a text, and before what a journal's owner says, piece by piece.
use Rattle.std.proofs.Common.{◌≡◌, ℕ, ◌+◌, ◌≤◌, Bool, true, false, ◌&&◌, List, [], ◌∷◌, ◌++◌, codes, drop, take, length, length-drop, refl, ap, ◌∙◌, sym, subst, arith}
use Rattle.std.specs.Prelude.{bytes_eq}
use Rattle.std.proofs.lemmas.Bool.{false≢true}
use Rattle.std.proofs.lemmas.List.{drop-drop, length-take-le, take-append-drop}
use Rattle.hex.specs.Hex.{encode_lower, lower_digits}
use Rattle.hex.proofs.HexLemmas.{length-encode_with}
use Rattle.sha2.proofs.Facts256.{length-sha256}
use Rattle.iv_journal.specs.Journal.{Line, body_of, digest_of, form, head_of, is_head, is_text, mark}
use Rattle.iv_journal.specs.Reading.{BeginsNoLine}
use Rattle.iv_journal.proofs.Bytes.{HasNoNewline, and-both_true, bytes_eq-itself, drop-length, same-bytes_eq}
use Rattle.iv_journal.proofs.Bodies.{is_body, length-body_of, line_in, BeginsNoLine-not_is_body}

-- ---- pieces

pub same_tests : (b c : Bool) → (b ≡ true → c ≡ true) → (c ≡ true → b ≡ true) → b ≡ c
same_tests true c f g = sym (f refl)
same_tests false true f g = absurd (false≢true (g refl))
same_tests false false f g = refl

take_length : (xs ys : List ℕ) → take (length xs) (xs ++ ys) ≡ xs
take_length [] ys = refl
take_length (x ∷ xs) ys = ap (λ z. x ∷ z) (take_length xs ys)

pub take-append_at : (n : ℕ) (xs ys : List ℕ) → length xs ≡ n → take n (xs ++ ys) ≡ xs
take-append_at n xs ys e = ap (λ m. take m (xs ++ ys)) (sym e) ∙ take_length xs ys

pub drop-append_at : (n : ℕ) (xs ys : List ℕ) → length xs ≡ n → drop n (xs ++ ys) ≡ ys
drop-append_at n xs ys e = ap (λ m. drop m (xs ++ ys)) (sym e) ∙ drop-length xs ys

drop_on : (m n k : ℕ) (xs : List ℕ) → m + n ≡ k → drop n (drop m xs) ≡ drop k xs
drop_on m n k xs e = drop-drop n m xs ∙ ap (λ i. drop i xs) e

-- ---- a line

take_mark : (b : Bool) (x : List ℕ) → take 9 (mark b ++ x) ≡ mark b
take_mark true x = refl
take_mark false x = refl

pub drop-mark : (b : Bool) (x : List ℕ) → drop 9 (mark b ++ x) ≡ x
drop-mark true x = refl
drop-mark false x = refl

length_digits : (d : List ℕ) (l : Line) → length (encode_lower (digest_of d l)) ≡ 64
length_digits d l =
    let a = length-encode_with lower_digits (digest_of d l) in
    let b = length-sha256 (d ++ (mark l.is_last ++ l.text)) in
    omega (arith, a, b)

abbrev pub has_front : List ℕ → Bool → List ℕ → Bool
has_front body b digest = bytes_eq (take 9 body) (mark b) && (bytes_eq (take 64 (drop 9 body)) (encode_lower digest) && bytes_eq (take 2 (drop 73 body)) (codes "\","))

in_pieces : (body : List ℕ) → body ≡ take 9 body ++ (take 64 (drop 9 body) ++ (take 2 (drop 73 body) ++ drop 75 body))
in_pieces body =
    sym (take-append-drop 9 body)
    ∙ ap (λ z. take 9 body ++ z) (sym (take-append-drop 64 (drop 9 body))
    ∙ ap (λ z. take 64 (drop 9 body) ++ z) (drop_on 9 64 73 body refl
    ∙ (sym (take-append-drop 2 (drop 73 body)) ∙ ap (λ z. take 2 (drop 73 body) ++ z) (drop_on 73 2 75 body refl))))

front_is : (d : List ℕ) (l : Line) (body : List ℕ) → l.text ≡ drop 75 body → has_front body l.is_last (digest_of d l) ≡ true → body ≡ body_of d l
front_is d l body t h =
    let p = and-both_true (bytes_eq (take 9 body) (mark l.is_last)) (bytes_eq (take 64 (drop 9 body)) (encode_lower (digest_of d l)) && bytes_eq (take 2 (drop 73 body)) (codes "\",")) h in
    let q = and-both_true (bytes_eq (take 64 (drop 9 body)) (encode_lower (digest_of d l))) (bytes_eq (take 2 (drop 73 body)) (codes "\",")) p.1 in
    let a = same-bytes_eq (take 9 body) (mark l.is_last) p.0 in
    let b = same-bytes_eq (take 64 (drop 9 body)) (encode_lower (digest_of d l)) q.0 in
    let c = same-bytes_eq (take 2 (drop 73 body)) (codes "\",") q.1 in
    in_pieces body ∙ (λ i. a i ++ (b i ++ (c i ++ sym t i)))

has_own : (d : List ℕ) (l : Line) → has_front (body_of d l) l.is_last (digest_of d l) ≡ true
has_own d l =
    let digits = encode_lower (digest_of d l) in
    let behind_mark = drop-mark l.is_last (encode_lower (digest_of d l) ++ (codes "\"," ++ l.text)) in
    let a = take_mark l.is_last (encode_lower (digest_of d l) ++ (codes "\"," ++ l.text)) in
    let b = ap (take 64) behind_mark ∙ take-append_at 64 (encode_lower (digest_of d l)) (codes "\"," ++ l.text) (length_digits d l) in
    let c = ap (take 2) (sym (drop_on 9 64 73 (body_of d l) refl) ∙ (ap (drop 64) behind_mark ∙ drop-append_at 64 (encode_lower (digest_of d l)) (codes "\"," ++ l.text) (length_digits d l))) in
    (λ i. bytes_eq (a i) (mark l.is_last) && (bytes_eq (b i) (encode_lower (digest_of d l)) && bytes_eq (c i) (codes "\",")))
    ∙ (λ i. bytes_eq-itself (mark l.is_last) i && (bytes_eq-itself (encode_lower (digest_of d l)) i && true))

pub front_told : (d body : List ℕ) → has_front body (line_in body).is_last (digest_of d (line_in body)) ≡ bytes_eq body (body_of d (line_in body))
front_told d body =
    let l = line_in body in
    same_tests (has_front body (line_in body).is_last (digest_of d (line_in body))) (bytes_eq body (body_of d (line_in body)))
    (λ h. ap (λ z. bytes_eq z (body_of d (line_in body))) (front_is d (line_in body) body refl h) ∙ bytes_eq-itself (body_of d (line_in body)))
    (λ h. ap (λ z. has_front z (line_in body).is_last (digest_of d (line_in body))) (same-bytes_eq body (body_of d (line_in body)) h) ∙ has_own d
    (line_in body))

-- ---- what the code finds

abbrev pub line_of : Bool → List ℕ → Line
line_of b text = record { is_last = b; text = text }

pub body_of-has_front : (d rest body text digest : List ℕ) (b h : Bool) → text ≡ drop 75 body → digest ≡ digest_of d (line_of b text) → h ≡ has_front body b digest → h ≡ true
    → rest ≡ body ++ 10 ∷ drop (length body + 1) rest → rest ≡ body_of d (line_of b text) ++ 10 ∷ drop (76 + length text) rest
body_of-has_front d rest body text digest b h t e f g r =
    let is = front_is d (line_of b text) body t (ap (has_front body b) (sym e) ∙ (sym f ∙ g)) in
    let k = ap length is in
    let m = length-body_of d (line_of b text) in
    let n : length body + 1 ≡ 76 + length text = omega (arith, k, m) in
    r ∙ (λ i. is i ++ 10 ∷ drop (n i) rest)

front_told_by : (d body text digest : List ℕ) (b h : Bool) → text ≡ drop 75 body → b ≡ bytes_eq (take 9 body) (mark true) → digest ≡ digest_of d (line_of b text) → h ≡ has_front body b digest
    → h ≡ bytes_eq body (body_of d (line_in body))
front_told_by d body text digest b h t k e f = f ∙ (ap (has_front body b) e ∙ ((λ i. has_front body (k i) (digest_of d (line_of (k i) (t i)))) ∙ front_told d body))

pub BeginsNoLine-not_has_front : (d rest body text digest : List ℕ) (b h : Bool) → text ≡ drop 75 body → b ≡ bytes_eq (take 9 body) (mark true) → digest ≡ digest_of d (line_of b text) → h ≡ has_front body b digest → h ≡ false
    → HasNoNewline body → rest ≡ body ++ 10 ∷ drop (length body + 1) rest → BeginsNoLine d rest
BeginsNoLine-not_has_front d rest body text digest b h t k e f g none r =
    let is : is_body d body ≡ false = ap (λ z. z && is_text (drop 75 body)) (sym (front_told_by d body text digest b h t k e f) ∙ g) in
    subst (λ (z : List ℕ). BeginsNoLine d z) (sym r) (BeginsNoLine-not_is_body d body (drop (length body + 1) rest) none is)

and_false : (b : Bool) → (b && false) ≡ false
and_false true = refl
and_false false = refl

pub BeginsNoLine-not_is_text : (d rest body text : List ℕ) → text ≡ drop 75 body → is_text text ≡ false → HasNoNewline body → rest ≡ body ++ 10 ∷ drop (length body + 1) rest → BeginsNoLine d rest
BeginsNoLine-not_is_text d rest body text t h none r =
    let is : is_body d body ≡ false = ap (λ z. bytes_eq body (body_of d (line_in body)) && z) (ap is_text (sym t) ∙ h) ∙ and_false (bytes_eq body (body_of d (line_in body))) in
    subst (λ (z : List ℕ). BeginsNoLine d z) (sym r) (BeginsNoLine-not_is_body d body (drop (length body + 1) rest) none is)

-- ---- a head

pub head_of-is_head : (text : List ℕ) → is_head text ≡ true → text ≡ head_of (take 32 (drop 21 text)) (drop 55 text)
head_of-is_head text h =
    let p = and-both_true (bytes_eq (take 21 text) form) (bytes_eq (take 2 (drop 53 text)) (codes "\",")) h in
    let a = same-bytes_eq (take 21 text) form p.0 in
    let b = same-bytes_eq (take 2 (drop 53 text)) (codes "\",") p.1 in
    sym (take-append-drop 21 text)
    ∙ ((λ i. a i ++ sym (take-append-drop 32 (drop 21 text)) i)
    ∙ ap (λ z. form ++ (take 32 (drop 21 text) ++ z)) (drop_on 21 32 53 text refl
    ∙ (sym (take-append-drop 2 (drop 53 text)) ∙ (λ i. b i ++ drop_on 53 2 55 text refl i))))

pub length-is_head : (text : List ℕ) → is_head text ≡ true → length (take 32 (drop 21 text)) ≡ 32
length-is_head text h =
    let p = and-both_true (bytes_eq (take 21 text) form) (bytes_eq (take 2 (drop 53 text)) (codes "\",")) h in
    let two = at_least_two (drop 53 text) (ap length (same-bytes_eq (take 2 (drop 53 text)) (codes "\",") p.1)) in
    let a = length-drop 53 text in
    let b = length-drop 21 text in
    length-take-le 32 (drop 21 text) (omega (arith, a, b, two))
  where
    at_least_two : (ys : List ℕ) → length (take 2 ys) ≡ 2 → 2 ≤ length ys
    at_least_two [] e = absurd (let no : ⊥ = omega (arith, e) in no)
    at_least_two (x ∷ []) e = absurd (let no : ⊥ = omega (arith, e) in no)
    at_least_two (x ∷ y ∷ ys) e = omega arith

pub is_head-head_of : (epoch more : List ℕ) → length epoch ≡ 32 → is_head (head_of epoch more) ≡ true
is_head-head_of epoch more e =
    let a : take 2 (drop 53 (head_of epoch more)) ≡ codes "\"," =
    ap (take 2) (sym (drop_on 21 32 53 (head_of epoch more) refl) ∙ drop-append_at 32 epoch (codes "\"," ++ more) e) in
    ap (λ z. bytes_eq z (codes "\",")) a
