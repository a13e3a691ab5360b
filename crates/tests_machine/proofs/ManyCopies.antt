-- Worked examples with many copies of a row.
use Rattle.std.proofs.Common.{◌≡◌, ℕ, zero, suc, ◌+◌, ◌<◌, ◌≤◌, ◌^◌, ◌-◌, Bool, not, ◌&&◌, true, false, pos, ◌*ℤ◌, List, [], ◌∷◌, ◌++◌, Option, Some, None, ap, ◌∙◌, sym, refl, arith, append-nil}
use Rattle.std.proofs.lemmas.Bool.Decides.{nat_tests}
use Rattle.std.specs.Prelude.{filter, nat_le}
use Rattle.std.specs.List.{list_all}
use Rattle.iv_rows.specs.Cell.{Cell, num}
use Rattle.iv_algebra.specs.declared.plan.Agg.{Agg}
use Rattle.iv_algebra.specs.declared.plan.Agg.TheVariants.{Sum, Count}
use Rattle.iv_algebra.specs.Evaluation.{eval, holds, plan_within}
use Rattle.iv_algebra.specs.Plans.{Lists, aggregate, group_fits, is_small, key_list, of_key, share, shares_fit}
use Rattle.iv_algebra.specs.Shapes.{Condition, Compare, Column, Literal, Filter, Group, Project, Scan}
use Rattle.iv_zset.specs.Limits.{copies, within}
use Rattle.iv_access.specs.Policies.{allowed, may_see}
use Rattle.iv_algebra.specs.declared.pred.Comparison.TheVariants.{Less}
use Rattle.iv_machine.specs.Act.{Act, write, insert, delete, Entry, Command, Line, reply, done, Refusal, limit, no_such_row}
use Rattle.iv_machine.specs.Changing.{after, times, without}
use Rattle.iv_machine.specs.Machine.{difference, lines_told, outcome, run}
use Rattle.tests_machine.specs.OfCopies.{batch, copies_limit, no_sums, summed, sums_limit, unread}
use Rattle.iv_machine.specs.Refusing.{test, or_else, all_within, entries_present, refusal, frame_refusal}
use Rattle.iv_machine.specs.State.{State, Subscription, is_within}
use Rattle.tests_machine.specs.Worked.{Computes, first, many, notes, of_ann, of_x, put}
use Rattle.tests_machine.proofs.TextValues.{texts_compute}
use Rattle.iv_machine.proofs.CopiesAfterWrite.{copies-append}
use Rattle.tests_machine.proofs.Copies.{filter-times, within-times, without-times, and-second_false, list_all-one_false, within-one_more, copies-own_times}

-- c copies of a row
abbrev copied : ℕ → ℕ → Act
copied n c = write (many c notes (insert (of_x n)) ∷ [])

abbrev asked : Act → Command
asked act = record { session = 1; act = act }

first_fits : (n c : ℕ) → c < 2 ^ 63 → refusal unread 1 (copied n c) ≡ None
first_fits n c l = ap (λ b. or_else (test (not ((b && true) && true)) limit) None) (within-times 1024 c (of_x n) (omega arith) l)

pub Computes-no_sums : (c : ℕ) → c ≡ 2 ^ 62 → Computes unread (no_sums c)
Computes-no_sums c e = ap (λ o. (outcome unread (asked (copied 2 c)) o).lines ++ []) (first_fits 2 c (omega arith))

then_full : (c : ℕ) → c ≡ 2 ^ 63 - 1 → refusal (outcome unread (asked (copied 1 c)) None).state 1 (put notes (of_x 1)) ≡ Some limit
then_full c e = ap (λ b. or_else (test (not ((b && true) && true)) limit) None) (within-one_more 1024 c (of_x 1) e)

pub Computes-copies_limit : (c : ℕ) → c ≡ 2 ^ 63 - 1 → Computes unread (copies_limit c)
Computes-copies_limit c e =
    ap (λ o. (outcome unread (asked (copied 1 c)) o).lines ++ (run (outcome unread (asked (copied 1 c)) o).state (asked (put notes (of_x 1)) ∷ [])).lines) (first_fits 1 c (omega arith))
    ∙ ap (λ o. (outcome unread (asked (copied 1 c)) None).lines ++ ((outcome (outcome unread (asked (copied 1 c)) None).state (asked (put notes (of_x 1))) o).lines ++ [])) (then_full c e)

-- ---- a sum that is too large

-- a group that does not fit
group_not_within : (cap t : ℕ) (p : Condition) (columns keys : List ℕ) (aggs : List Agg) (T : Lists)
    → group_fits keys aggs (eval (Filter p (Scan t)) T) ≡ false → plan_within cap (Project columns (Group keys aggs (Filter p (Scan t)))) T ≡ false
group_not_within cap t p columns keys aggs T h = by (plan_within cap (Filter p (Scan t)) T) (group_fits keys aggs (eval (Filter p (Scan t)) T)) _ _ h
  where
    by : (a b d e : Bool) → b ≡ false → (((a && b) && d) && e) ≡ false
    by true true d e k = cc
    by true false d e k = refl
    by false b d e k = refl

sum_fails : (keys : List ℕ) (rows : List (List Cell)) → list_all (λ r. is_small (share 0 rows r)) rows ≡ false → group_fits keys (Sum 0 ∷ Count ∷ []) rows ≡ false
sum_fails keys rows h = ap (λ b. (b && list_all (λ key. is_small (aggregate (Sum 0) (of_key keys key rows))) (key_list keys rows)) && list_all (λ a. shares_fit rows a && list_all (λ key. is_small (aggregate a (of_key keys key rows))) (key_list keys rows)) (Count ∷ [])) h

-- ann's note, and c copies of another
abbrev noted : ℕ → List (List Cell)
noted c = of_ann 1 ∷ times c (of_x 2)

share_is : (c : ℕ) → c ≡ 2 ^ 62 → is_small (share 0 (noted c) (of_x 2)) ≡ false
share_is c e = ap (λ m. is_small (pos 2 *ℤ pos m)) (ap (λ n. 0 + n) (copies-own_times c (of_x 2) ∙ e))

shares_fail : (c : ℕ) → c ≡ 2 ^ 62 → list_all (λ r. is_small (share 0 (noted c) r)) (noted c) ≡ false
shares_fail zero e = absurd (omega arith)
shares_fail (suc c) e = list_all-one_false (λ r. is_small (share 0 (noted (suc c)) r)) (of_ann 1 ∷ []) (times c (of_x 2)) (of_x 2) (share_is (suc c) e)

abbrev after_copies : ℕ → State
after_copies c = after summed 1 (copied 2 c)

abbrev second : Subscription
second = record { session = 2; number = 2; rel = 1 }

-- ann sees each note
abbrev seen : ℕ → Lists
seen c = allowed (after_copies c).frame.rights 1 (after_copies c).rows

abbrev below_hundred : Condition
below_hundred = Compare (Column 0) Less (Literal (num (pos 100)))

rows_are : (c : ℕ) → eval (Filter below_hundred (Scan 0)) (seen c) ≡ noted c
unfolding texts_compute
rows_are c = ap (λ rows. of_ann 1 ∷ filter (holds below_hundred []) rows) (filter-times (may_see (after_copies c).frame.rights 1 0) c (of_x 2) refl)
    ∙ ap (λ rows. of_ann 1 ∷ rows) (filter-times (holds below_hundred []) c (of_x 2) refl)

over_rows : (c : ℕ) → c ≡ 2 ^ 62 → is_within (after_copies c) second ≡ false
unfolding texts_compute
over_rows c e = group_not_within 1024 0 below_hundred (0 ∷ 1 ∷ 2 ∷ []) (1 ∷ []) (Sum 0 ∷ Count ∷ []) (seen c)
    (ap (group_fits (1 ∷ []) (Sum 0 ∷ Count ∷ [])) (rows_are c) ∙ sum_fails (1 ∷ []) (noted c) (shares_fail c e))

last_fails : (p : Subscription → Bool) (x y : Subscription) → p y ≡ false → list_all p (x ∷ y ∷ []) ≡ false
last_fails p x y h = and-second_false (p x) (p y && true) (ap (λ b. b && true) h)

-- a write after which the view of the second subscription is not within the limits
write_over : (s : State) (n : ℕ) (es : List Entry) (x y : Subscription) → frame_refusal s.frame n (write es) ≡ None → entries_present s.frame.catalog 1 es s.rows ≡ None
    → s.frame.subscriptions ≡ x ∷ y ∷ [] → is_within (after s n (write es)) y ≡ false → refusal s n (write es) ≡ Some limit
write_over s n es x y h p subs w = (λ i. or_else (h i) (or_else (p i) (or_else (test (not (over i)) limit) None)))
  where
    over : all_within (after s n (write es)) ≡ false
    over = and-second_false _ (list_all (is_within (after s n (write es))) s.frame.subscriptions) (ap (list_all (is_within (after s n (write es)))) subs ∙ last_fails (is_within (after s n (write es))) x y w)

sums_refused : (c : ℕ) → c ≡ 2 ^ 62 → refusal summed 1 (copied 2 c) ≡ Some limit
unfolding texts_compute
sums_refused c e = write_over summed 1 (many c notes (insert (of_x 2)) ∷ []) (record { session = 2; number = 1; rel = 0 }) second refl refl refl (over_rows c e)

pub Computes-sums_limit : (c : ℕ) → c ≡ 2 ^ 62 → Computes summed (sums_limit c)
Computes-sums_limit c e = ap (λ o. (outcome summed (asked (copied 2 c)) o).lines ++ []) (sums_refused c e)

-- ---- a batch that takes away what it adds

-- the note that was there, and twice c copies of another
abbrev doubled : ℕ → List (List Cell)
doubled c = (of_ann 1 ∷ times c (of_x 8)) ++ times c (of_x 8)

half_left : (c : ℕ) → c ≡ 2 ^ 63 - 1 → without c (of_x 8) (doubled c) ≡ of_ann 1 ∷ times c (of_x 8)
half_left zero e = absurd (omega arith)
half_left (suc c) e = ap (λ rows. of_ann 1 ∷ rows) (without-times (suc c) (of_x 8) (times (suc c) (of_x 8)))

none_left : (c : ℕ) → c ≡ 2 ^ 63 - 1 → without c (of_x 8) (of_ann 1 ∷ times c (of_x 8)) ≡ of_ann 1 ∷ []
none_left zero e = absurd (omega arith)
none_left (suc c) e = ap (λ rows. of_ann 1 ∷ without (suc c) (of_x 8) rows) (sym (append-nil (times (suc c) (of_x 8)))) ∙ ap (λ rows. of_ann 1 ∷ rows) (without-times (suc c) (of_x 8) [])

all_left : (c : ℕ) → c ≡ 2 ^ 63 - 1 → without c (of_x 8) (without c (of_x 8) (doubled c)) ≡ of_ann 1 ∷ []
all_left c e = ap (without c (of_x 8)) (half_left c e) ∙ none_left c e

enough : (c n : ℕ) → c ≤ n → nat_le c n ≡ true
enough c n h = grind (arith, nat_tests)

first_there : (c : ℕ) → nat_le c (copies (of_x 8) (doubled c)) ≡ true
first_there c = let h = copies-append (of_x 8) (of_ann 1 ∷ times c (of_x 8)) (times c (of_x 8)) in let k = copies-own_times c (of_x 8) in enough c (copies (of_x 8) (doubled c)) (omega arith)

second_there : (c : ℕ) → c ≡ 2 ^ 63 - 1 → nat_le c (copies (of_x 8) (without c (of_x 8) (doubled c))) ≡ true
second_there c e = ap (λ rows. nat_le c (copies (of_x 8) rows)) (half_left c e) ∙ enough c (0 + copies (of_x 8) (times c (of_x 8))) (let k = copies-own_times c (of_x 8) in omega arith)

abbrev batched : ℕ → Command
batched c = asked (write (many c notes (insert (of_x 8)) ∷ many c notes (insert (of_x 8)) ∷ many c notes (delete (of_x 8)) ∷ many c notes (delete (of_x 8)) ∷ []))

-- the tests of the batch, by what it finds and what it leaves
abbrev batch_tests : (a b : Bool) → List (List Cell) → Option Refusal
batch_tests a b rows = or_else (or_else (test (not a) (no_such_row 3)) (or_else (test (not b) (no_such_row 4)) None))
    (or_else (test (not ((within 1024 rows && true) && (within 1024 (filter (may_see first.frame.rights 1 0) rows) && true))) limit) None)

batch_accepted : (c : ℕ) → c ≡ 2 ^ 63 - 1 → refusal first 1 (batched c).act ≡ None
batch_accepted c e = λ i. batch_tests (first_there c i) (second_there c e i) (all_left c e i)

-- the lines of the batch, by what it leaves
abbrev batch_lines : List (List Cell) → List Line
batch_lines rows = reply 1 done ∷ (lines_told None (record { session = 2; number = 1; rel = 0 }) (difference (of_ann 1 ∷ []) (filter (may_see first.frame.rights 1 0) rows)) ++ [])

pub Computes-batch : (c : ℕ) → c ≡ 2 ^ 63 - 1 → Computes first (batch c)
Computes-batch c e = ap (λ o. (outcome first (batched c) o).lines ++ []) (batch_accepted c e) ∙ ap (λ rows. batch_lines rows ++ []) (all_left c e)
