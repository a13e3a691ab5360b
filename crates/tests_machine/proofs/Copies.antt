-- Many copies of one row, and their limits.
use Rattle.std.proofs.Common.{◌≡◌, ℕ, zero, suc, ◌+◌, ◌<◌, ◌≤◌, ◌^◌, ◌-◌, Bool, true, false, cond, ◌&&◌, List, [], ◌∷◌, ◌++◌, length, ap, ◌∙◌, refl, arith}
use Rattle.std.proofs.lemmas.Bool.Decides.{nat_tests}
use Rattle.std.specs.Prelude.{filter, nat_lt, nat_le}
use Rattle.std.specs.List.{list_all}
use Rattle.iv_rows.specs.Cell.{Cell}
use Rattle.iv_rows.specs.Order.{row_eq}
use Rattle.iv_rows.specs.OrderLaws.{row_eq_equiv}
use Rattle.iv_zset.specs.Bags.{firsts, firsts_after}
use Rattle.iv_zset.specs.Limits.{copies, within}
use Rattle.iv_machine.specs.Changing.{times, without}
use Rattle.iv_machine.proofs.CopiesAfterWrite.{copies-append, copies-times}

none_further : (c : ℕ) (row : List Cell) → firsts_after row_eq (row ∷ []) (times c row) ≡ []
none_further zero row = refl
none_further (suc c) row = ap (λ b. cond (cond b true false) (firsts_after row_eq (row ∷ []) (times c row)) (row ∷ firsts_after row_eq (row ∷ row ∷ []) (times c row))) (row_eq_equiv.refl row) ∙ none_further c row

one_first : (c : ℕ) (row : List Cell) → length (firsts row_eq (times c row)) ≤ 1
one_first zero row = omega arith
one_first (suc c) row = let e : length (firsts row_eq (times (suc c) row)) ≡ 1 = ap (λ rows. suc (length rows)) (none_further c row) in omega arith

all_times : (f : List Cell → Bool) (c : ℕ) (row : List Cell) → f row ≡ true → list_all f (times c row) ≡ true
all_times f zero row h = refl
all_times f (suc c) row h = ap (λ b. b && list_all f (times c row)) h ∙ all_times f c row h

pub copies-own_times : (c : ℕ) (row : List Cell) → copies row (times c row) ≡ c
copies-own_times c row = copies-times row row c ∙ ap (λ b. cond b c 0) (row_eq_equiv.refl row)

below : (c n m : ℕ) → c ≡ n → n < m → nat_lt c m ≡ true
below c n m e h = grind (arith, nat_tests)

pub within-times : (cap c : ℕ) (row : List Cell) → 1 ≤ cap → c < 2 ^ 63 → within cap (times c row) ≡ true
within-times cap c row h l =
    let one = one_first c row in
    let wide : nat_le (length (firsts row_eq (times c row))) cap ≡ true = grind (arith, nat_tests) in
    ap (λ b. b && list_all (λ r. nat_lt (copies r (times c row)) (2 ^ 63)) (times c row)) wide
    ∙ all_times (λ r. nat_lt (copies r (times c row)) (2 ^ 63)) c row (below (copies row (times c row)) c (2 ^ 63) (copies-own_times c row) l)

pub and-second_false : (a b : Bool) → b ≡ false → (a && b) ≡ false
and-second_false true b h = h
and-second_false false b h = refl

above : (c m : ℕ) → m ≤ c → nat_lt c m ≡ false
above c m h = grind (arith, nat_tests)

-- one of them fails
pub list_all-one_false : (f : List Cell → Bool) (xs ys : List (List Cell)) (x : List Cell) → f x ≡ false → list_all f (xs ++ x ∷ ys) ≡ false
list_all-one_false f [] ys x h = ap (λ b. b && list_all f ys) h
list_all-one_false f (y ∷ xs) ys x h = and-second_false (f y) (list_all f (xs ++ x ∷ ys)) (list_all-one_false f xs ys x h)

-- a row has too many copies
pub not_within : (cap : ℕ) (row : List Cell) (rows : List (List Cell)) → 2 ^ 63 ≤ copies row (row ∷ rows) → within cap (row ∷ rows) ≡ false
not_within cap row rows h = and-second_false (nat_le (length (firsts row_eq (row ∷ rows))) cap) _
    (list_all-one_false (λ r. nat_lt (copies r (row ∷ rows)) (2 ^ 63)) [] rows row (above (copies row (row ∷ rows)) (2 ^ 63) h))

pub within-one_more : (cap c : ℕ) (row : List Cell) → c ≡ 2 ^ 63 - 1 → within cap (times c row ++ row ∷ []) ≡ false
within-one_more cap zero row e = absurd (omega arith)
within-one_more cap (suc c) row e =
    let n = copies-append row (times (suc c) row) (row ∷ []) in
    let m = copies-own_times (suc c) row in
    let l : copies row (row ∷ []) ≡ 1 = ap (λ b. cond b 1 0 + 0) (row_eq_equiv.refl row) in
    not_within cap row (times c row ++ row ∷ []) (omega arith)

-- ---- the copies that are let through, and those that are taken away

pub filter-times : (p : List Cell → Bool) (c : ℕ) (row : List Cell) → p row ≡ true → filter p (times c row) ≡ times c row
filter-times p zero row h = refl
filter-times p (suc c) row h = ap (λ b. cond b (row ∷ filter p (times c row)) (filter p (times c row))) h ∙ ap (λ rows. row ∷ rows) (filter-times p c row h)

none_taken : (row : List Cell) (rest : List (List Cell)) → without 0 row rest ≡ rest
none_taken row [] = refl
none_taken row (r ∷ rest) = refl

pub without-times : (c : ℕ) (row : List Cell) (rest : List (List Cell)) → without c row (times c row ++ rest) ≡ rest
without-times zero row rest = none_taken row rest
without-times (suc c) row rest = ap (λ b. cond b (without c row (times c row ++ rest)) (row ∷ without (suc c) row (times c row ++ rest))) (row_eq_equiv.refl row) ∙ without-times c row rest
