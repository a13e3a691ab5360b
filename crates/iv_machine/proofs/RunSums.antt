-- The lines of a run add up.
use Rattle.std.proofs.Common.{◌≡◌, ℕ, Bool, true, false, cond, ◌||◌, List, [], ◌∷◌, ◌++◌, ℤ, pos, Option, Some, None, ap, ◌∙◌, sym, refl, arith}
use Rattle.std.proofs.lemmas.Int.{ints}
use Rattle.std.proofs.lemmas.Bool.Decides.{nat_tests}
use Rattle.std.specs.Prelude.{◌==◌, flat_map, find, ◌-ℤ◌, ◌+ℤ◌}
use Rattle.std.specs.List.{list_any}
use Rattle.iv_rows.specs.Options.{if_some}
use Rattle.iv_rows.specs.Cell.{Cell}
use Rattle.iv_zset.specs.Weights.{Weighed, weight_of}
use Rattle.iv_zset.specs.Limits.{copies}
use Rattle.iv_machine.specs.Act.{Act, Command, Line, Refusal}
use Rattle.iv_machine.specs.State.{State, Subscription, view_shown, shown, start}
use Rattle.iv_machine.specs.Refusing.{refusal}
use Rattle.iv_machine.specs.Changing.{after_frame, after}
use Rattle.iv_machine.specs.Machine.{weight, difference, lines_told, line_for, changes, ending_by, settled, outcome, step, run}
use Rattle.iv_machine.specs.Held.{line_weight, held, closed_by, closed_in, closed}
use Rattle.iv_machine.specs.Reached.{AreUnique, AreNumbersUnique, AddsUp}
use Rattle.iv_machine.proofs.DifferenceOrder.{weight_of-difference, zero_left, zero_right, cond-or}
use Rattle.iv_machine.proofs.UniqueNumbers.{has_number, or-both_false, has_number-filter, AreNumbersUnique-settled, AreNumbersUnique-after_frame, has_number-before}
use Rattle.iv_machine.specs.declared.Cause.{Cause}

plus_assoc : (x y z : ℤ) → (x +ℤ y) +ℤ z ≡ x +ℤ (y +ℤ z)
plus_assoc x y z = omega (arith, ints)

through : (a b c : ℤ) → (b -ℤ a) +ℤ (c -ℤ b) ≡ c -ℤ a
through a b c = omega (arith, ints)

minus_itself : (a : ℤ) → a -ℤ a ≡ pos 0
minus_itself a = omega (arith, ints)

minus_none : (a : ℕ) → pos a -ℤ pos 0 ≡ pos a
minus_none a = omega (arith, ints)

pub held-append : (k : ℕ) (q : List Cell) (xs ys : List Line) → held k q (xs ++ ys) ≡ held k q xs +ℤ held k q ys
held-append k q [] ys = sym (zero_left (held k q ys))
held-append k q (x ∷ xs) ys = ap (λ z. line_weight k q x +ℤ z) (held-append k q xs ys) ∙ sym (plus_assoc (line_weight k q x) (held k q xs) (held k q ys))

none : (b : Bool) → pos 0 ≡ cond b (pos 0) (pos 0)
none true = refl
none false = refl

-- the line of a subscription, or none where nothing changes
line_held : (k : ℕ) (q : List Cell) (o : Option Cause) (e : Subscription) (ps : Weighed) → held k q (lines_told o e ps) ≡ cond (k == e.number) (weight_of ps q) (pos 0)
line_held k q (Some why) e ps = zero_right _
line_held k q None e [] = none (k == e.number)
line_held k q None e (p ∷ ps) = zero_right _

same_number : (k n : ℕ) → (k == n) ≡ true → k ≡ n
same_number k n h = grind (arith, nat_tests)

-- ---- the lines of a step

pub held-line_for : (k : ℕ) (q : List Cell) (old new : State) (ends : Subscription → Option Cause) (es : List Subscription) → AreUnique es → held k q (flat_map (line_for old new ends) es) ≡ cond (has_number k es) (weight (shown old k) (shown new k) q) (pos 0)
held-line_for k q old new ends [] u = refl
held-line_for k q old new ends (e ∷ es) u = held-append k q (line_for old new ends e) (flat_map (line_for old new ends) es)
    ∙ ap (λ z. z +ℤ held k q (flat_map (line_for old new ends) es)) (line_held k q (ends e) e (difference (shown old e.number) (shown new e.number)))
    ∙ cond-or (k == e.number) (has_number k es) (weight (shown old k) (shown new k) q) (weight_of (difference (shown old e.number) (shown new e.number)) q) (held k q (flat_map (line_for old new ends) es))
    (λ h. weight_of-difference (shown old e.number) (shown new e.number) q ∙ ap (λ j. weight (shown old j) (shown new j) q) (sym (same_number k e.number h)))
    (λ h. ap (λ j. has_number j es) (same_number k e.number h) ∙ u.0)
    (held-line_for k q old new ends es u.1)

weight_itself : (rows : List (List Cell)) (q : List Cell) → weight rows rows q ≡ pos 0
weight_itself rows q = minus_itself (pos (copies q rows))

pub find-has_number : (k : ℕ) (es : List Subscription) → has_number k es ≡ false → find (λ e. k == e.number) es ≡ None
find-has_number k [] h = refl
find-has_number k (e ∷ es) h = let a = or-both_false (k == e.number) (has_number k es) h in ap (λ b. cond b (Some e) (find (λ f. k == f.number) es)) a.0 ∙ find-has_number k es a.1

-- a subscription that is not open shows nothing
pub shown-has_number : (s : State) (k : ℕ) → has_number k s.frame.subscriptions ≡ false → shown s k ≡ []
shown-has_number s k h = ap (λ o. if_some o [] (view_shown s)) (find-has_number k s.frame.subscriptions h)

-- what is or-both_false open afterwards nor closed was not open before
pick : (s : State) (n : ℕ) (act : Act) (k : ℕ) (q : List Cell) (b : Bool) → list_any (λ j. k == j) (closed_by s.frame n act) ≡ false → has_number k (after_frame s.frame n act).subscriptions ≡ b → cond b (weight (shown s k) (shown (settled act (after s n act)) k) q) (pos 0) ≡ weight (shown s k) (shown (settled act (after s n act)) k) q
pick s n act k q true c e = refl
pick s n act k q false c e = sym ((λ i. weight (shown-has_number s k (has_number-before s.frame n act k c e) i) (shown-has_number (settled act (after s n act)) k (has_number-filter k _ (after_frame s.frame n act).subscriptions e) i) q) ∙ weight_itself [] q)

changes_add : (s : State) (n : ℕ) (act : Act) (k : ℕ) (q : List Cell) → AreNumbersUnique s.frame → list_any (λ j. k == j) (closed_by s.frame n act) ≡ false → held k q (changes act s (after s n act) (settled act (after s n act))) ≡ weight (shown s k) (shown (settled act (after s n act)) k) q
changes_add s n act k q h c = let changed = after s n act in
    held-line_for k q s (settled act changed) (ending_by act changed) (after_frame s.frame n act).subscriptions (AreNumbersUnique-after_frame s.frame n act h).unique
    ∙ pick s n act k q (has_number k (after_frame s.frame n act).subscriptions) c refl

-- ---- one command, and many

step_by : (s : State) (c : Command) (o : Option Refusal) (k : ℕ) (q : List Cell) → AreNumbersUnique s.frame → list_any (λ j. k == j) (closed_in s c o) ≡ false → held k q (outcome s c o).lines ≡ weight (shown s k) (shown (outcome s c o).state k) q
step_by s c None k q h n = zero_left (held k q (changes c.act s (after s c.session c.act) (settled c.act (after s c.session c.act)))) ∙ changes_add s c.session c.act k q h n
step_by s c (Some r) k q h n = sym (weight_itself (shown s k) q)

numbers_by : (s : State) (c : Command) (o : Option Refusal) → AreNumbersUnique s.frame → AreNumbersUnique (outcome s c o).state.frame
numbers_by s c None h = AreNumbersUnique-settled c.act (after s c.session c.act) (AreNumbersUnique-after_frame s.frame c.session c.act h)
numbers_by s c (Some r) h = h

pub AreNumbersUnique-step : (s : State) (c : Command) → AreNumbersUnique s.frame → AreNumbersUnique (step s c).state.frame
AreNumbersUnique-step s c h = numbers_by s c (refusal s c.session c.act) h

none_of_both : (k : ℕ) (xs ys : List ℕ) → list_any (λ j. k == j) (xs ++ ys) ≡ false → (list_any (λ j. k == j) xs ≡ false) × (list_any (λ j. k == j) ys ≡ false)
none_of_both k [] ys h = (refl, h)
none_of_both k (x ∷ xs) ys h =
    let a = or-both_false (k == x) (list_any (λ j. k == j) (xs ++ ys)) h in
    let b = none_of_both k xs ys a.1 in
    (ap (λ z. z || list_any (λ j. k == j) xs) a.0 ∙ b.0, b.1)

pub AddsUp-run : (s : State) (cs : List Command) → AreNumbersUnique s.frame → AddsUp s cs
AddsUp-run s [] h = λ k q n. sym (weight_itself (shown s k) q)
AddsUp-run s (c ∷ cs) h = λ k q n.
    let o = none_of_both k (closed_in s c (refusal s c.session c.act)) (closed (step s c).state cs) n in
    held-append k q (step s c).lines (run (step s c).state cs).lines
    ∙ (λ i. step_by s c (refusal s c.session c.act) k q h o.0 i +ℤ AddsUp-run (step s c).state cs (AreNumbersUnique-step s c h) k q o.1 i)
    ∙ through (pos (copies q (shown s k))) (pos (copies q (shown (step s c).state k))) (pos (copies q (shown (run (step s c).state cs).state k)))

pub AreNumbersUnique-run : (s : State) (cs : List Command) → AreNumbersUnique s.frame → AreNumbersUnique (run s cs).state.frame
AreNumbersUnique-run s [] h = h
AreNumbersUnique-run s (c ∷ cs) h = AreNumbersUnique-run (step s c).state cs (AreNumbersUnique-step s c h)

pub AreNumbersUnique-start : (cap : ℕ) → AreNumbersUnique (start cap).frame
AreNumbersUnique-start cap = record { unique = tt; given = tt }

-- from the start the lines add up to what is shown
pub held-from_start : (cap : ℕ) (cs : List Command) (k : ℕ) (q : List Cell) → list_any (λ j. k == j) (closed (start cap) cs) ≡ false → held k q (run (start cap) cs).lines ≡ pos (copies q (shown (run (start cap) cs).state k))
held-from_start cap cs k q n = AddsUp-run (start cap) cs (AreNumbersUnique-start cap) k q n ∙ minus_none (copies q (shown (run (start cap) cs).state k))
