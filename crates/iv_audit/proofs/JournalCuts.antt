-- What is left of a journal that was cut.
use Rattle.std.proofs.Common.{◌≡◌, ◌⊎◌, inl, inr, ℕ, zero, suc, ◌<◌, ◌≤◌, Bool, true, false, cond, ◌&&◌, List, [], ◌∷◌, ◌++◌, codes, drop, take, map, length, length-append, refl, ap, ◌∙◌, sym, subst, arith}
use Rattle.std.specs.Prelude.{bytes_eq, nat_lt}
use Rattle.std.specs.List.{AllByRecursion}
use Rattle.std.proofs.lemmas.Bool.Decides.{nat_tests}
use Rattle.iv_journal.specs.Journal.{Line, body_of, bytes_of, digest_of, form, head_of, journal_of, no_digest}
use Rattle.iv_journal.specs.Reading.{before_whole, whole}
use Rattle.iv_journal.specs.Laws.{CutsAreFronts, IsCut}
use Rattle.iv_audit.specs.Audit.{Written, audit_of, head_line, record_of, version}
use Rattle.iv_audit.specs.Reading.{given_in, line_in}
use Rattle.iv_audit.specs.Laws as law
use Rattle.iv_audit.specs.Laws.{IsFront, IsHead, IsWritten, given}
use Rattle.iv_audit.proofs.Bytes.{AllText}
use Rattle.iv_audit.proofs.Texts.{TextsKeepLines-text_in}

-- ---- whole records

head_off : (h : Line) (ls : List Line) → h.is_last ≡ true → drop 1 (whole (h ∷ ls)) ≡ whole ls
head_off h ls e = by (whole ls)
  where
    by : (ws : List Line) → drop 1 (before_whole h ws) ≡ ws
    by [] = ap (λ b. drop 1 (cond b (h ∷ []) [])) e
    by (w ∷ ws) = refl

whole_given : (ls : List Line) → map line_in (whole ls) ≡ whole (map line_in ls)
whole_given [] = refl
whole_given (l ∷ ls) = by (whole ls) (whole_given ls)
  where
    one : (b : Bool) → map line_in (cond b (l ∷ []) []) ≡ cond b (line_in l ∷ []) []
    one true = refl
    one false = refl

    by : (ws : List Line) → map line_in ws ≡ whole (map line_in ls) → map line_in (before_whole l ws) ≡ before_whole (line_in l) (whole (map line_in ls))
    by [] e = one l.is_last ∙ ap (before_whole (line_in l)) e
    by (w ∷ ws) e = ap (before_whole (line_in l)) e

pub texts_records : (ws : List Written) → AllByRecursion IsWritten ws → AllText (map record_of ws)
texts_records [] a = tt
texts_records (w ∷ ws) a = (a.0.text, texts_records ws a.1)

-- ---- the head

behind_all : (xs ys : List ℕ) → drop (length xs) (xs ++ ys) ≡ ys
behind_all [] ys = refl
behind_all (x ∷ xs) ys = behind_all xs ys

pub headed : (epoch more : List ℕ) → length epoch ≡ 32 → (bytes_eq (take 21 (head_of epoch more)) form && bytes_eq (take 2 (drop 53 (head_of epoch more))) (codes "\",")) ≡ true
headed epoch more h =
    ap (λ z. bytes_eq (take 2 z) (codes "\",")) (ap (λ n. drop n (epoch ++ (codes "\"," ++ more))) (sym h) ∙ behind_all epoch (codes "\"," ++ more))

-- ---- the lines

given_take : (n : ℕ) (ws : List Written) → AllByRecursion IsWritten ws → map line_in (take n (map record_of ws)) ≡ take n (given ws)
given_take zero ws a = refl
given_take (suc n) [] a = refl
given_take (suc n) (w ∷ ws) a = (λ i. TextsKeepLines-text_in w a.0 i ∷ given_take n ws a.1 i)

before : ℕ → ℕ
before zero = 0
before (suc n) = n

lines_left : (epoch : List ℕ) (count : ℕ) (ws : List Written) → AllByRecursion IsWritten ws
    → given_in (whole (take count (audit_of epoch ws))) ≡ whole (take (before count) (given ws))
unfolding before
lines_left epoch zero ws a = refl
lines_left epoch (suc n) ws a =
    ap (map line_in) (head_off (head_line epoch) (take n (map record_of ws)) refl) ∙ (whole_given (take n (map record_of ws)) ∙ ap whole (given_take n ws a))

-- ---- lengths

longer : (d : List ℕ) (a b : ℕ) (ls : List Line) → a ≤ b → length (bytes_of d (take a ls)) ≤ length (bytes_of d (take b ls))
longer d zero b ls h = omega arith
longer d (suc a) zero ls h = absurd (let no : ⊥ = omega (arith, h) in no)
longer d (suc a) (suc b) [] h = omega arith
longer d (suc a) (suc b) (l ∷ ls) h =
    let k = longer (digest_of d l) a b ls (omega (arith, h)) in
    let f = length-append (body_of d l) (10 ∷ bytes_of (digest_of d l) (take a ls)) in
    let g = length-append (body_of d l) (10 ∷ bytes_of (digest_of d l) (take b ls)) in
    omega (arith, k, f, g)

take_map : (n : ℕ) (ws : List Written) → map record_of (take n ws) ≡ take n (map record_of ws)
take_map zero ws = refl
take_map (suc n) [] = refl
take_map (suc n) (w ∷ ws) = ap (λ z. record_of w ∷ z) (take_map n ws)

length_map : (ws : List Written) → length (map record_of ws) ≡ length ws
length_map [] = refl
length_map (w ∷ ws) = ap suc (length_map ws)

cut_audit : (epoch : List ℕ) (n : ℕ) (ws : List Written) → audit_of epoch (take n ws) ≡ take (suc n) (audit_of epoch ws)
cut_audit epoch n ws = ap (λ z. head_line epoch ∷ z) (take_map n ws)

pub le-or_lt : (n m : ℕ) → (n ≤ m) ⊎ (suc m ≤ n)
le-or_lt n m = by (nat_lt m n) refl
  where
    less : (m n : ℕ) → nat_lt m n ≡ true → suc m ≤ n
    less m n e = grind (arith, nat_tests)

    most : (m n : ℕ) → nat_lt m n ≡ false → n ≤ m
    most m n e = grind (arith, nat_tests)

    by : (b : Bool) → nat_lt m n ≡ b → (n ≤ m) ⊎ (suc m ≤ n)
    by true e = inr (less m n e)
    by false e = inl (most m n e)

-- all entries within what is left are read
within : (epoch : List ℕ) (ws : List Written) (left count n : ℕ) → n ≤ length ws
    → (count < length (audit_of epoch ws) → left < length (journal_of (take (suc count) (audit_of epoch ws))))
    → length (journal_of (audit_of epoch (take n ws))) ≤ left → n ≤ before count
unfolding before
within epoch ws left zero n h most k = by (le-or_lt n 0)
  where
    by : (n ≤ 0) ⊎ (1 ≤ n) → n ≤ 0
    by (inl e) = e
    by (inr e) =
        let far = longer no_digest 1 (suc n) (audit_of epoch ws) (omega (arith, e)) in
        let there : length (journal_of (take (suc n) (audit_of epoch ws))) ≤ left = subst (λ (z : List Line). length (journal_of z) ≤ left) (cut_audit epoch n ws) k in
        let some : left < length (journal_of (take 1 (audit_of epoch ws))) = most (omega arith) in
        absurd (let no : ⊥ = omega (arith, far, there, some) in no)
within epoch ws left (suc c) n h most k = by (le-or_lt n c)
  where
    by : (n ≤ c) ⊎ (suc c ≤ n) → n ≤ c
    by (inl e) = e
    by (inr e) =
        let m = length_map ws in
        let far = longer no_digest (suc (suc c)) (suc n) (audit_of epoch ws) (omega (arith, e)) in
        let there : length (journal_of (take (suc n) (audit_of epoch ws))) ≤ left = subst (λ (z : List Line). length (journal_of z) ≤ left) (cut_audit epoch n ws) k in
        let some : left < length (journal_of (take (suc (suc c)) (audit_of epoch ws))) = most (omega (arith, e, h, m)) in
        absurd (let no : ⊥ = omega (arith, far, there, some) in no)

pub CutsAreFronts-take : CutsAreFronts → law.CutsAreFronts
CutsAreFronts-take fronts = λ epoch ws left r head a is.
    let ls = audit_of epoch ws in
    let c : IsCut (audit_of epoch ws) left r = fronts (audit_of epoch ws) left r (record { head = headed epoch version head.digits; texts = (head.text, texts_records ws a) }) is in
    record {
      count = before c.count;
      lines = ap given_in c.lines ∙ lines_left epoch c.count ws a;
      all = λ n h k. within epoch ws left c.count n h c.most k;
      faultless = c.faultless;
    }
