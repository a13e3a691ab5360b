-- Where texts are cut: what is cut was put together so, and what was put together is cut there.
use Rattle.std.proofs.Common.{◌≡◌, ℕ, ◌+◌, ◌/◌, ◌%◌, Bool, true, false, cond, ◌||◌, ◌&&◌, ◌==◌, List, [], ◌∷◌, ◌++◌, drop, length, take, Option, Some, None, option_map, is_some, refl, ap, ◌∙◌, sym, arith, append_assoc, length-append}
use Rattle.std.specs.Prelude.{◌-◌, bytes_eq, nat_lt, option_and_then}
use Rattle.std.specs.Char.{digit_char}
use Rattle.std.specs.List.{list_all, list_any}
use Rattle.std.proofs.Math.Seq.{take-append_seam}
use Rattle.std.proofs.lemmas.Bool.{eqb-true, false≢true, or_parts}
use Rattle.std.proofs.lemmas.Bool.Decides.{nat_tests}
use Rattle.std.proofs.lemmas.List.{take-append-drop}
use Rattle.std.proofs.lemmas.List.Folds.{list_any-append}
use Rattle.std.proofs.lemmas.Slice.Eq.{bytes_eq-Decides}
use Rattle.json.specs.Print.{escape, escape_byte, escape_letter}
use Rattle.iv_request.specs.Request.{passing}
use Rattle.iv_records.specs.Parsed.{but_last}
use Rattle.iv_records.specs.Cuts.{cut_quote, behind, cut_at}

-- ---- options

pub same-Some : {X : Type 0} (a b : X) → Some a ≡ Some b → a ≡ b
same-Some a b h = cc

pub not_None-Some : {X : Type 0} (x : X) → Some x ≡ None → ⊥
not_None-Some x e = false≢true (sym (ap is_some e))

pub record Found {X Y : Type 0} (f : X → Option Y) (o : Option X) (y : Y) : Type 0 where
  pub of : X
  pub there : o ≡ Some of
  pub is : f of ≡ Some y

pub Found-option_and_then : {X Y : Type 0} (f : X → Option Y) (o : Option X) (y : Y) → option_and_then f o ≡ Some y → Found f o y
Found-option_and_then f None y h = absurd (not_None-Some y (sym h))
Found-option_and_then f (Some x) y h = record { of = x; there = refl; is = h }

pub record Passes {X : Type 0} (t : X → Bool) (x y : X) : Type 0 where
  pub same : x ≡ y
  pub passes : t y ≡ true

pub Passes-passing : {X : Type 0} (t : X → Bool) (x y : X) → passing t x ≡ Some y → Passes t x y
Passes-passing t x y h = by (t x) refl h
  where
    by : (b : Bool) → t x ≡ b → cond b (Some x) None ≡ Some y → Passes t x y
    by true e k = record { same = same-Some x y k; passes = ap t (sym (same-Some x y k)) ∙ e }
    by false e k = absurd (not_None-Some y (sym k))

pub passing-true : {X : Type 0} (t : X → Bool) (x : X) → t x ≡ true → passing t x ≡ Some x
passing-true t x h = ap (λ b. cond b (Some x) None) h

-- what passes after something
pub record Passed {X : Type 0} (t : X → Bool) (o : Option X) (y : X) : Type 0 where
  pub there : o ≡ Some y
  pub passes : t y ≡ true

pub Passed-option_and_then : {X : Type 0} (t : X → Bool) (o : Option X) (y : X) → option_and_then (passing t) o ≡ Some y → Passed t o y
Passed-option_and_then t o y h =
    let f = Found-option_and_then (passing t) o y h in let p = Passes-passing t f.of y f.is in
    record { there = f.there ∙ ap Some p.same; passes = p.passes }

-- ---- bytes

-- no byte is this one
abbrev pub HasNo : ℕ → List ℕ → Type 0
HasNo b xs = list_any (λ x. x == b) xs ≡ false

pub list_any-append_false : (p : ℕ → Bool) (xs ys : List ℕ) → list_any p xs ≡ false → list_any p ys ≡ false → list_any p (xs ++ ys) ≡ false
list_any-append_false p xs ys h k = list_any-append p xs ys ∙ (λ i. h i || k i)

pub and-both_true : (b c : Bool) → (b && c) ≡ true → (b ≡ true) × (c ≡ true)
and-both_true true c h = (refl, h)
and-both_true false c h = absurd (false≢true h)

-- where all bytes pass a test that this one does not
pub HasNo-list_all : (t : ℕ → Bool) (b : ℕ) → t b ≡ false → (xs : List ℕ) → list_all t xs ≡ true → HasNo b xs
HasNo-list_all t b f [] h = refl
HasNo-list_all t b f (x ∷ xs) h = (λ i. by (x == b) refl i || HasNo-list_all t b f xs (and-both_true (t x) (list_all t xs) h).1 i)
  where
    by : (u : Bool) → (x == b) ≡ u → u ≡ false
    by true e = absurd (false≢true (sym f ∙ (ap t (sym (eqb-true x b e)) ∙ (and-both_true (t x) (list_all t xs) h).0)))
    by false e = refl

-- ---- what is cut was put together

pub same-behind : (prefix bytes rest : List ℕ) → behind prefix bytes ≡ Some rest → bytes ≡ prefix ++ rest
same-behind prefix bytes rest h = by (bytes_eq (take (length prefix) bytes) prefix) refl h
  where
    by : (t : Bool) → bytes_eq (take (length prefix) bytes) prefix ≡ t → cond t (Some (drop (length prefix) bytes)) None ≡ Some rest → bytes ≡ prefix ++ rest
    by true e k =
        sym (take-append-drop (length prefix) bytes)
        ∙ (λ i. (bytes_eq-Decides (take (length prefix) bytes) prefix).0 e i ++ same-Some (drop (length prefix) bytes) rest k i)
    by false e k = absurd (not_None-Some rest (sym k))

pub same-cut_at : (b : ℕ) (xs : List ℕ) (p : List ℕ × List ℕ) → cut_at b xs ≡ Some p → xs ≡ p.0 ++ b ∷ p.1
same-cut_at b [] p h = absurd (not_None-Some p (sym h))
same-cut_at b (x ∷ xs) p h = by (x == b) refl (cut_at b xs) h (λ q e. same-cut_at b xs q e)
  where
    by : (t : Bool) → (x == b) ≡ t → (o : Option (List ℕ × List ℕ)) → cond t (Some ([], xs)) (option_map {U = List ℕ × List ℕ} (λ q. (x ∷ q.0, q.1)) o) ≡ Some p
        → ((q : List ℕ × List ℕ) → o ≡ Some q → xs ≡ q.0 ++ b ∷ q.1) → x ∷ xs ≡ p.0 ++ b ∷ p.1
    by true e o k more = ap (λ z. z ∷ xs) (eqb-true x b e) ∙ ap (λ (z : List ℕ × List ℕ). z.0 ++ b ∷ z.1) (same-Some {X = List ℕ × List ℕ} ([], xs) p k)
    by false e None k more = absurd (not_None-Some p (sym k))
    by false e (Some q) k more = ap (λ z. x ∷ z) (more q refl) ∙ ap (λ (z : List ℕ × List ℕ). z.0 ++ b ∷ z.1) (same-Some {X = List ℕ × List ℕ} (x ∷ q.0, q.1) p k)

-- ---- what was put together is cut there

pub cut_at-HasNo : (b : ℕ) (xs rest : List ℕ) → HasNo b xs → (b == b) ≡ true → cut_at b (xs ++ b ∷ rest) ≡ Some (xs, rest)
cut_at-HasNo b [] rest h s = ap (λ t. cond t (Some ([], rest)) (option_map {U = List ℕ × List ℕ} (λ q. (b ∷ q.0, q.1)) (cut_at b rest))) s
cut_at-HasNo b (x ∷ xs) rest h s = by (x == b) refl h (λ e. cut_at-HasNo b xs rest e s)
  where
    by : (t : Bool) → (x == b) ≡ t → (t || list_any (λ y. y == b) xs) ≡ false → (HasNo b xs → cut_at b (xs ++ b ∷ rest) ≡ Some (xs, rest))
        → cond t (Some ([], xs ++ b ∷ rest)) (option_map {U = List ℕ × List ℕ} (λ q. (x ∷ q.0, q.1)) (cut_at b (xs ++ b ∷ rest))) ≡ Some (x ∷ xs, rest)
    by true e f more = absurd (false≢true (sym f))
    by false e f more = ap (option_map {U = List ℕ × List ℕ} (λ q. (x ∷ q.0, q.1))) (more f)

pub but_last-push : (xs : List ℕ) (b : ℕ) → but_last (xs ++ b ∷ []) ≡ xs
but_last-push xs b =
    let one : length (xs ++ b ∷ []) - 1 ≡ length xs = less (length (xs ++ b ∷ [])) (length xs) (length-append xs (b ∷ [])) in
    ap (λ n. take n (xs ++ b ∷ [])) one ∙ take-append_seam xs (b ∷ [])
  where
    less : (n m : ℕ) → n ≡ m + 1 → n - 1 ≡ m
    less n m h = omega (arith, h)

-- ---- strings of JSON

abbrev joined : List ℕ → List ℕ × List ℕ → List ℕ × List ℕ
joined xs p = (xs ++ p.0, p.1)

-- a byte that is neither a quotation mark nor a backslash
plain_cut : (x : ℕ) (r : List ℕ) (p : List ℕ × List ℕ) → (x == 34) ≡ false → (x == 92) ≡ false → cut_quote false r ≡ Some p → cut_quote false (x ∷ r) ≡ Some (x ∷ p.0, p.1)
plain_cut x r p a b h =
    (λ i. cond (a i) (Some ([], r)) (option_map {U = List ℕ × List ℕ} (λ q. (x ∷ q.0, q.1)) (cut_quote (b i) r)))
    ∙ ap (option_map {U = List ℕ × List ℕ} (λ q. (x ∷ q.0, q.1))) h

-- two bytes, of which the first is a backslash
escaped_cut : (l : ℕ) (r : List ℕ) (p : List ℕ × List ℕ) → cut_quote false r ≡ Some p → cut_quote false (92 ∷ l ∷ r) ≡ Some (92 ∷ l ∷ p.0, p.1)
escaped_cut l r p h =
    ap (λ o. option_map {U = List ℕ × List ℕ} (λ q. (92 ∷ q.0, q.1)) (option_map {U = List ℕ × List ℕ} (λ q. (l ∷ q.0, q.1)) o)) h

digit_no_quote : (d : ℕ) → (digit_char d == 34) ≡ false
digit_no_quote d = grind (arith, nat_tests)

digit_no_backslash : (d : ℕ) → (digit_char d == 92) ≡ false
digit_no_backslash d = grind (arith, nat_tests)

letter_of_mark : (x : ℕ) (q b f n r t : Bool) → nat_lt 0 (cond q x (cond b 98 (cond f 102 (cond n 110 (cond r 114 (cond t 116 0)))))) ≡ false → (q ≡ true → nat_lt 0 x ≡ true) → q ≡ false
letter_of_mark x true b f n r t h k = absurd (false≢true (sym h ∙ k refl))
letter_of_mark x false b f n r t h k = refl

mark_is_some : (x : ℕ) → ((x == 34) || (x == 92)) ≡ true → nat_lt 0 x ≡ true
mark_is_some x h = grind (arith, nat_tests)

no_marks : (x : ℕ) → nat_lt 0 (escape_letter x) ≡ false → ((x == 34) ≡ false) × ((x == 92) ≡ false)
no_marks x h =
    let q : ((x == 34) || (x == 92)) ≡ false = letter_of_mark x ((x == 34) || (x == 92)) (x == 8) (x == 12) (x == 10) (x == 13) (x == 9) h (mark_is_some x) in
    or_parts (x == 34) (x == 92) q

byte_by : (x l d e : ℕ) (r : List ℕ) (p : List ℕ × List ℕ) (some low : Bool) → (d == 34) ≡ false → (d == 92) ≡ false → (e == 34) ≡ false → (e == 92) ≡ false
    → (some ≡ false → ((x == 34) ≡ false) × ((x == 92) ≡ false)) → cut_quote false r ≡ Some p
    → cut_quote false (cond some (92 ∷ l ∷ []) (cond low (92 ∷ 117 ∷ 48 ∷ 48 ∷ d ∷ e ∷ []) (x ∷ [])) ++ r)
    ≡ Some (joined (cond some (92 ∷ l ∷ []) (cond low (92 ∷ 117 ∷ 48 ∷ 48 ∷ d ∷ e ∷ []) (x ∷ []))) p)
byte_by x l d e r p true low a b f g k h = escaped_cut l r p h
byte_by x l d e r p false true a b f g k h =
    let last = plain_cut e r p f g h in
    let both = plain_cut d (e ∷ r) (e ∷ p.0, p.1) a b last in
    escaped_cut 117 (48 ∷ 48 ∷ d ∷ e ∷ r) (48 ∷ 48 ∷ d ∷ e ∷ p.0, p.1)
    (plain_cut 48 (48 ∷ d ∷ e ∷ r) (48 ∷ d ∷ e ∷ p.0, p.1) refl refl (plain_cut 48 (d ∷ e ∷ r) (d ∷ e ∷ p.0, p.1) refl refl both))
byte_by x l d e r p false false a b f g k h = plain_cut x r p (k refl).0 (k refl).1 h

byte_cut : (x : ℕ) (r : List ℕ) (p : List ℕ × List ℕ) → cut_quote false r ≡ Some p → cut_quote false (escape_byte x ++ r) ≡ Some (joined (escape_byte x) p)
unfolding escape_byte
byte_cut x r p h =
    byte_by x (escape_letter x) (digit_char (x / 16)) (digit_char (x % 16)) r p (nat_lt 0 (escape_letter x)) (nat_lt x 32)
    (digit_no_quote (x / 16)) (digit_no_backslash (x / 16)) (digit_no_quote (x % 16)) (digit_no_backslash (x % 16)) (no_marks x) h

pub cut_quote-escape : (s rest : List ℕ) → cut_quote false (escape s ++ 34 ∷ rest) ≡ Some (escape s, rest)
cut_quote-escape [] rest = refl
cut_quote-escape (x ∷ s) rest =
    ap (cut_quote false) (append_assoc (escape_byte x) (escape s) (34 ∷ rest)) ∙ byte_cut x (escape s ++ 34 ∷ rest) (escape s, rest) (cut_quote-escape s rest)
