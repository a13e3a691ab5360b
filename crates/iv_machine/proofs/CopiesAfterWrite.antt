-- How often a row stands in the lists that a write leaves.
use Rattle.std.proofs.Common.{◌≡◌, ℕ, zero, suc, ◌+◌, ◌≤◌, Bool, true, false, cond, not, List, [], ◌∷◌, ◌++◌, ℤ, pos, None, refl, ap, subst, ◌∙◌, arith}
use Rattle.std.proofs.lemmas.Int.{ints}
use Rattle.std.proofs.lemmas.Bool.Decides.{nat_tests}
use Rattle.std.specs.Prelude.{◌==◌, nat_le, ◌+ℤ◌, ◌-ℤ◌}
use Rattle.iv_rows.specs.Cell.{Cell}
use Rattle.iv_rows.specs.Order.{row_eq}
use Rattle.iv_rows.specs.OrderLaws.{row_eq_decides}
use Rattle.iv_zset.specs.Limits.{copies}
use Rattle.iv_algebra.specs.Plans.{Lists}
use Rattle.iv_bind.specs.Catalogs as catalogs
use Rattle.iv_machine.specs.Act.{Entry, Op, insert, delete, update, no_such_row}
use Rattle.iv_machine.specs.State.{rel_of}
use Rattle.iv_machine.specs.Refusing.{test, is_present, entries_present}
use Rattle.iv_machine.specs.Changing.{times, without, changed_by, after_entry, written}
use Rattle.iv_machine.specs.Added.{adds, added}
use Rattle.iv_machine.proofs.OpenSubscriptions.{or_else-None, test_not-None}

pub copies-append : (q : List Cell) (xs ys : List (List Cell)) → copies q (xs ++ ys) ≡ copies q xs + copies q ys
copies-append q [] ys = omega arith
copies-append q (x ∷ xs) ys = let ih = copies-append q xs ys in more (cond (row_eq q x) 1 0) (copies q (xs ++ ys)) (copies q xs) (copies q ys) ih
  where
    more : (n a b c : ℕ) → a ≡ b + c → n + a ≡ (n + b) + c
    more n a b c h = omega arith

times_step : (b : Bool) (c : ℕ) → cond b 1 0 + cond b c 0 ≡ cond b (suc c) 0
times_step true c = omega arith
times_step false c = refl

none_times : (b : Bool) → zero ≡ cond b zero zero
none_times true = refl
none_times false = refl

pub copies-times : (q row : List Cell) (c : ℕ) → copies q (times c row) ≡ cond (row_eq q row) c 0
copies-times q row zero = none_times (row_eq q row)
copies-times q row (suc c) = ap (λ n. cond (row_eq q row) 1 0 + n) (copies-times q row c) ∙ times_step (row_eq q row) c

-- ---- fewer copies

-- the first occurrence goes, or the row in front stays
without_by : (b : Bool) (q row r : List Cell) (c n : ℕ) (kept gone : List (List Cell)) → row_eq row r ≡ b
    → (b ≡ true → copies q gone + cond (row_eq q row) c 0 ≡ n) → (b ≡ false → copies q kept + cond (row_eq q row) (suc c) 0 ≡ n)
    → copies q (cond b gone (r ∷ kept)) + cond (row_eq q row) (suc c) 0 ≡ cond (row_eq q r) 1 0 + n
without_by true q row r c n kept gone e h g = let same : row ≡ r = (row_eq_decides row r).0 e in
    subst (λ x. copies q gone + cond (row_eq q row) (suc c) 0 ≡ cond (row_eq q x) 1 0 + n) same (one_more (row_eq q row) c (copies q gone) n (h refl))
  where
    one_more : (b : Bool) (c a n : ℕ) → a + cond b c 0 ≡ n → a + cond b (suc c) 0 ≡ cond b 1 0 + n
    one_more true c a n h = omega arith
    one_more false c a n h = omega arith
without_by false q row r c n kept gone e h g = beside (cond (row_eq q r) 1 0) (copies q kept) (cond (row_eq q row) (suc c) 0) n (g refl)
  where
    beside : (a b c n : ℕ) → b + c ≡ n → (a + b) + c ≡ a + n
    beside a b c n h = omega arith

found_more : (b : Bool) (c n : ℕ) → b ≡ true → suc c ≤ cond b 1 0 + n → c ≤ n
found_more true c n e h = omega arith
found_more false c n e h = cc

found_later : (b : Bool) (c n : ℕ) → b ≡ false → c ≤ cond b 1 0 + n → c ≤ n
found_later true c n e h = cc
found_later false c n e h = omega arith

none_at : (b : Bool) (c : ℕ) → c ≤ 0 → 0 + cond b c 0 ≡ 0
none_at true c h = omega arith
none_at false c h = refl

none_zero : (b : Bool) (n : ℕ) → n + cond b zero 0 ≡ n
none_zero true n = omega arith
none_zero false n = omega arith

-- where as many are there, so many fewer are left
pub copies-without : (q row : List Cell) (c : ℕ) (rows : List (List Cell)) → c ≤ copies row rows → copies q (without c row rows) + cond (row_eq q row) c 0 ≡ copies q rows
copies-without q row c [] h = none_at (row_eq q row) c h
copies-without q row zero (r ∷ rows) h = none_zero (row_eq q row) (copies q (r ∷ rows))
copies-without q row (suc c) (r ∷ rows) h = without_by (row_eq row r) q row r c (copies q rows) (without (suc c) row rows) (without c row rows) refl
    (λ e. copies-without q row c rows (found_more (row_eq row r) c (copies row rows) e h))
    (λ e. copies-without q row (suc c) rows (found_later (row_eq row r) (suc c) (copies row rows) e h))

-- ---- an entry, and a write

more_copies : (a n i : ℕ) → a ≡ n + i → pos a ≡ pos n +ℤ pos i
more_copies a n i h = omega (arith, ints)

fewer_copies : (a n d : ℕ) → a + d ≡ n → pos a ≡ pos n +ℤ (pos 0 -ℤ pos d)
fewer_copies a n d h = omega (arith, ints)

other_copies : (a b n i d : ℕ) → b ≡ a + i → a + d ≡ n → pos b ≡ pos n +ℤ (pos i -ℤ pos d)
other_copies a b n i d h k = omega (arith, ints)

at_most : (c n : ℕ) → nat_le c n ≡ true → c ≤ n
at_most c n h = grind (arith, nat_tests)

appended : (q row : List Cell) (c : ℕ) (rows : List (List Cell)) → copies q (rows ++ times c row) ≡ copies q rows + cond (row_eq q row) c 0
appended q row c rows = copies-append q rows (times c row) ∙ ap (λ n. copies q rows + n) (copies-times q row c)

pub copies-changed_by : (q : List Cell) (op : Op) (c : ℕ) (rows : List (List Cell)) → is_present op c rows ≡ true → pos (copies q (changed_by op c rows)) ≡ pos (copies q rows) +ℤ adds op c q
copies-changed_by q (insert new) c rows h = more_copies (copies q (rows ++ times c new)) (copies q rows) (cond (row_eq q new) c 0) (appended q new c rows)
copies-changed_by q (delete old) c rows h = fewer_copies (copies q (without c old rows)) (copies q rows) (cond (row_eq q old) c 0) (copies-without q old c rows (at_most c (copies old rows) h))
copies-changed_by q (update old new) c rows h = other_copies (copies q (without c old rows)) (copies q (without c old rows ++ times c new)) (copies q rows) (cond (row_eq q new) c 0) (cond (row_eq q old) c 0)
    (appended q new c (without c old rows)) (copies-without q old c rows (at_most c (copies old rows) h))

same_number : (m n : ℕ) → (m == n) ≡ true → m ≡ n
same_number m n h = grind (arith, nat_tests)

zero_more : (a : ℤ) → a ≡ a +ℤ pos 0
zero_more a = omega (arith, ints)

plus_assoc : (a b c : ℤ) → (a +ℤ b) +ℤ c ≡ a +ℤ (b +ℤ c)
plus_assoc a b c = omega (arith, ints)

one_entry : (b : Bool) (q : List Cell) (e : Entry) (rows : List (List Cell)) → (b ≡ true → is_present e.op e.copies rows ≡ true) → pos (copies q (cond b (changed_by e.op e.copies rows) rows)) ≡ pos (copies q rows) +ℤ cond b (adds e.op e.copies q) (pos 0)
one_entry true q e rows h = copies-changed_by q e.op e.copies rows (h refl)
one_entry false q e rows h = zero_more (pos (copies q rows))

-- a write adds its entries' copies, where each finds the rows that it removes
pub copies-written : (catalog : List catalogs.CatalogEntry) (n : ℕ) (es : List Entry) (T : Lists) (t : ℕ) (q : List Cell) → entries_present catalog n es T ≡ None → pos (copies q (written catalog es T t)) ≡ pos (copies q (T t)) +ℤ added catalog es t q
copies-written catalog n [] T t q h = zero_more (pos (copies q (T t)))
copies-written catalog n (e ∷ es) T t q h =
    let r = rel_of catalog e.rel in
    let o = or_else-None (test (not (is_present e.op e.copies (T r))) (no_such_row n)) (entries_present catalog (n + 1) es (after_entry catalog e T)) h in
    let present = test_not-None (is_present e.op e.copies (T r)) (no_such_row n) o.0 in
    copies-written catalog (n + 1) es (after_entry catalog e T) t q o.1
    ∙ ap (λ z. z +ℤ added catalog es t q) (one_entry (r == t) q e (T t) (λ k. subst (λ u. is_present e.op e.copies (T u) ≡ true) (same_number r t k) present))
    ∙ plus_assoc (pos (copies q (T t))) (cond (r == t) (adds e.op e.copies q) (pos 0)) (added catalog es t q)
