-- Journals that were cut.
use Rattle.std.proofs.Common.{◌≡◌, ◌⊎◌, inl, inr, ℕ, zero, suc, ◌+◌, ◌-◌, ◌<◌, ◌≤◌, Bool, true, false, cond, ◌||◌, ◌&&◌, List, [], ◌∷◌, ◌++◌, append_assoc, codes, take, length, length-append, Some, None, refl, ap, ◌∙◌, sym, arith}
use Rattle.std.specs.Prelude.{◌==◌, bytes_eq, nat_le, not}
use Rattle.std.proofs.lemmas.Bool.Decides.{nat_tests}
use Rattle.hex.specs.Hex.{encode_lower}
use Rattle.iv_journal.specs.Journal.{Line, body_of, bytes_of, digest_behind, digest_of, has_head, is_plain, is_text, journal_of, mark, most_text, no_digest}
use Rattle.iv_journal.specs.Reading.{BeginsNoLine, begins, fault_of, is_torn, whole}
use Rattle.iv_journal.specs.Laws.{CutsAreFronts}
use Rattle.iv_journal.proofs.Bytes.{and-both_true, le-or_lt, is_end, HasNone-take, or_true, take-append_long, take-append_short}
use Rattle.iv_journal.proofs.Bodies.{length-body_of, BeginsNoLine-HasNoNewline, HasNoNewline-body_of, HasNone-body_of}
use Rattle.iv_journal.proofs.Readings.{AllText, same-bytes_of}

-- ---- a front of a line is torn

take_none : (n : ℕ) → take {A = ℕ} n [] ≡ []
take_none zero = refl
take_none (suc n) = refl

same_number : (x : ℕ) → (x == x) ≡ true
same_number x = grind (arith, nat_tests)

begins_cut : (f x : List ℕ) (n : ℕ) → begins (take n (f ++ x)) f ≡ true
begins_cut [] x n = ap (λ z. bytes_eq [] z) (take_none (length (take n x)))
begins_cut (y ∷ f) x zero = refl
begins_cut (y ∷ f) x (suc n) = (λ i. same_number y i && begins_cut f x n i)

begins_mark : (b : Bool) (x : List ℕ) (n : ℕ) → (begins (take n (mark b ++ x)) (mark true) || begins (take n (mark b ++ x)) (mark false)) ≡ true
begins_mark true x n = ap (λ z. z || begins (take n (mark true ++ x)) (mark false)) (begins_cut (mark true) x n)
begins_mark false x n = ap (λ z. begins (take n (mark false ++ x)) (mark true) || z) (begins_cut (mark false) x n) ∙ or_true (begins (take n (mark false ++ x)) (mark true))

short : (n m : ℕ) → n ≤ m → nat_le n m ≡ true
short n m h = grind (arith, nat_tests)

long : (n m : ℕ) → nat_le n m ≡ true → n ≤ m
long n m h = grind (arith, nat_tests)

length_take : (n : ℕ) (xs : List ℕ) → length (take n xs) ≤ length xs
length_take zero xs = omega arith
length_take (suc n) [] = omega arith
length_take (suc n) (x ∷ xs) = let h = length_take n xs in omega (arith, h)

torn_front : (d : List ℕ) (l : Line) (n : ℕ) → is_text l.text ≡ true → is_torn (take n (body_of d l)) ≡ true
torn_front d l n h =
    let cut = take n (body_of d l) in
    let plain : is_plain (take n (body_of d l)) ≡ true = ap not (HasNone-take is_end n (body_of d l) (HasNone-body_of d l h)) in
    let most : length l.text ≤ most_text = long (length l.text) most_text (and-both_true (is_plain l.text) (nat_le (length l.text) most_text) h).1 in
    let whole_length = length-body_of d l in
    let cut_length = length_take n (body_of d l) in
    let fits : length (take n (body_of d l)) ≤ 75 + most_text = omega (arith, most, whole_length, cut_length) in
    (λ i. begins_mark l.is_last (encode_lower (digest_of d l) ++ (codes "\"," ++ l.text)) n i && (plain i && short (length (take n (body_of d l))) (75 + most_text) fits i))

-- ---- lines that were cut

pub record Cut (d : List ℕ) (ls : List Line) (n : ℕ) : Type 0 where
  pub count : ℕ
  pub rest : List ℕ
  pub bytes : take n (bytes_of d ls) ≡ bytes_of d (take count ls) ++ rest
  pub within : length (bytes_of d (take count ls)) ≤ n
  pub most : count < length ls → n < length (bytes_of d (take (suc count) ls))
  pub torn : is_torn rest ≡ true
  pub furthest : BeginsNoLine (digest_behind d (take count ls)) rest

cut_none : (d : List ℕ) (n : ℕ) → take n (bytes_of d []) ≡ [] → Cut d [] n
cut_none d n e = record {
  count = 0;
  rest = [];
  bytes = e;
  within = omega arith;
  most = λ h. absurd (let no : ⊥ = omega (arith, h) in no);
  torn = refl;
  furthest = BeginsNoLine-HasNoNewline d [] refl;
}

cut_first : (d : List ℕ) (l : Line) (ls : List Line) (n : ℕ) → is_text l.text ≡ true → n ≤ length (body_of d l) → Cut d (l ∷ ls) n
cut_first d l ls n h f =
    let a = length-append (body_of d l) (10 ∷ []) in
    record {
      count = 0;
      rest = take n (body_of d l);
      bytes = take-append_short n (body_of d l) (10 ∷ bytes_of (digest_of d l) ls) f;
      within = omega arith;
      most = λ c. omega (arith, a, f);
      torn = torn_front d l n h;
      furthest = BeginsNoLine-HasNoNewline d (take n (body_of d l)) (HasNone-take (λ b. b == 10) n (body_of d l) (HasNoNewline-body_of d l h));
    }

cut_later : (d : List ℕ) (l : Line) (ls : List Line) (n : ℕ) → suc (length (body_of d l)) ≤ n → Cut (digest_of d l) ls (n - suc (length (body_of d l))) → Cut d (l ∷ ls) n
cut_later d l ls n f c =
    let e = digest_of d l in
    let record_length : length (body_of d l ++ 10 ∷ []) ≡ suc (length (body_of d l)) = length-append (body_of d l) (10 ∷ []) ∙ omega arith in
    let past : length (body_of d l ++ 10 ∷ []) ≤ n = omega (arith, record_length, f) in
    let split = take-append_long n (body_of d l ++ 10 ∷ []) (bytes_of (digest_of d l) ls) past in
    let m = length-append (body_of d l) (10 ∷ bytes_of (digest_of d l) (take c.count ls)) in
    let m2 = length-append (body_of d l) (10 ∷ bytes_of (digest_of d l) (take (suc c.count) ls)) in
    record {
      count = suc c.count;
      rest = c.rest;
      bytes = ap (take n) (sym (append_assoc (body_of d l) (10 ∷ []) (bytes_of (digest_of d l) ls)))
          ∙ (split ∙ ((λ i. (body_of d l ++ 10 ∷ []) ++ take (n - record_length i) (bytes_of (digest_of d l) ls))
          ∙ (ap (λ z. (body_of d l ++ 10 ∷ []) ++ z) c.bytes
          ∙ (append_assoc (body_of d l) (10 ∷ []) (bytes_of (digest_of d l) (take c.count ls) ++ c.rest)
          ∙ sym (append_assoc (body_of d l) (10 ∷ bytes_of (digest_of d l) (take c.count ls)) c.rest)))));
      within = (let w = c.within in omega (arith, m, w, f));
      most = λ h. (let w : n - suc (length (body_of d l)) < length (bytes_of (digest_of d l) (take (suc c.count) ls)) = c.most (omega (arith, h)) in omega (arith, m2, w, f));
      torn = c.torn;
      furthest = c.furthest;
    }

pub cut_at : (d : List ℕ) (ls : List Line) (n : ℕ) → AllText ls → Cut d ls n
cut_at d [] n a = cut_none d n (take_none n)
cut_at d (l ∷ ls) n a = by (le-or_lt n (length (body_of d l))) (cut_at (digest_of d l) ls (n - suc (length (body_of d l))) a.1)
  where
    by : (n ≤ length (body_of d l)) ⊎ (suc (length (body_of d l)) ≤ n) → Cut (digest_of d l) ls (n - suc (length (body_of d l))) → Cut d (l ∷ ls) n
    by (inl f) c = cut_first d l ls n a.0 f
    by (inr f) c = cut_later d l ls n f c

-- ---- what is read of them

all_take : (n : ℕ) (ls : List Line) → AllText ls → AllText (take n ls)
all_take zero ls a = tt
all_take (suc n) [] a = tt
all_take (suc n) (l ∷ ls) a = (a.0, all_take n ls a.1)

head_take : (n : ℕ) (ls : List Line) → has_head ls ≡ true → has_head (take n ls) ≡ true
head_take zero ls h = refl
head_take (suc n) [] h = refl
head_take (suc n) (l ∷ ls) h = h

no_fault : (b c : Bool) (n : ℕ) → b ≡ true → c ≡ true → cond b (cond c None (Some n)) (Some 0) ≡ None
no_fault b c n h k = (λ i. cond (h i) (cond (k i) None (Some n)) (Some 0))

pub CutsAreFronts-take : CutsAreFronts
CutsAreFronts-take = λ ls left r j h.
    let c = cut_at no_digest ls left j.texts in
    let k = same-bytes_of no_digest h.lines (take c.count ls) h.rest c.rest h.begins.texts (all_take c.count ls j.texts) h.begins.furthest c.furthest (sym h.begins.all ∙ c.bytes) in
    record {
      count = c.count;
      within = c.within;
      most = c.most;
      lines = h.whole ∙ ap whole k.0;
      faultless = h.fault ∙ ((λ i. fault_of (k.0 i) (k.1 i))
          ∙ no_fault (has_head (take c.count ls)) (is_torn c.rest) (length (journal_of (take c.count ls))) (head_take c.count ls j.head) c.torn);
    }
