-- What a client was told for one of its numbers, added up.
use Rattle.std.proofs.Common.{◌≡◌, ℕ, ◌≤◌, ◌<◌, Bool, true, false, cond, ◌||◌, List, [], ◌∷◌, ◌++◌, ℤ, pos, ap, ◌∙◌, sym, refl, arith, eq-eqb, append-nil, map}
use Rattle.std.proofs.lemmas.Int.{ints}
use Rattle.std.proofs.lemmas.Bool.Decides.{nat_tests}
use Rattle.std.proofs.lemmas.List.Concat.{flat_map-append}
use Rattle.std.specs.Prelude.{◌==◌, flat_map, ◌-ℤ◌, ◌+ℤ◌}
use Rattle.std.specs.List.{AllByRecursion, list_any}
use Rattle.iv_rows.specs.Cell.{Cell}
use Rattle.iv_rows.specs.Order.{row_eq}
use Rattle.iv_zset.specs.Weights.{Weighed, weight_of}
use Rattle.iv_access.specs.Rights.{Name}
use Rattle.iv_machine.specs.Act.{Line, reply, change, ended}
use Rattle.iv_machine.specs.Held.{held, line_weight}
use Rattle.iv_message.specs.Told.{Told, changed, over, granted}
use Rattle.iv_clients.specs.Clients.{Sub, own_line, own_lines}
use Rattle.iv_clients.specs.Feeds.{Feed, rel_read}
use Rattle.iv_gate.specs.Seen.{all_rows, rows_told}

plus_assoc : (x y z : ℤ) → (x +ℤ y) +ℤ z ≡ x +ℤ (y +ℤ z)
plus_assoc x y z = omega (arith, ints)

zero_left : (x : ℤ) → pos 0 +ℤ x ≡ x
zero_left x = omega (arith, ints)

zero_right : (x : ℤ) → x +ℤ pos 0 ≡ x
zero_right x = omega (arith, ints)

pub or-both_false : (b c : Bool) → (b || c) ≡ false → (b ≡ false) × (c ≡ false)
or-both_false true c h = cc
or-both_false false c h = (refl, h)

pub eq-false_turned : (m n : ℕ) → (m == n) ≡ false → (n == m) ≡ false
eq-false_turned m n h = grind (arith, nat_tests)

pub eq-turned : (m n : ℕ) → (m == n) ≡ true → (n == m) ≡ true
eq-turned m n h = grind (arith, nat_tests)

pub eq-itself : (n : ℕ) → (n == n) ≡ true
eq-itself n = eq-eqb n n refl

weight-append : (es fs : Weighed) (q : List Cell) → weight_of (es ++ fs) q ≡ weight_of es q +ℤ weight_of fs q
weight-append [] fs q = sym (zero_left (weight_of fs q))
weight-append (e ∷ es) fs q = ap (λ x. cond (row_eq q e.0) e.1 (pos 0) +ℤ x) (weight-append es fs q) ∙ sym (plus_assoc (cond (row_eq q e.0) e.1 (pos 0)) (weight_of es q) (weight_of fs q))

-- what a list of things that were told has for a number
abbrev pub sum_for : ℕ → List Cell → List Told → ℤ
sum_for own q ts = weight_of (all_rows own ts) q

pub sum_for-append : (own : ℕ) (q : List Cell) (ts us : List Told) → sum_for own q (ts ++ us) ≡ sum_for own q ts +ℤ sum_for own q us
sum_for-append own q ts us = ap (λ z. weight_of z q) (flat_map-append (rows_told own) ts us) ∙ weight-append (all_rows own ts) (all_rows own us) q

-- what is granted has no rows
pub sum_for-granted : (own : ℕ) (q : List Cell) (names : List Name) → sum_for own q (map granted names) ≡ pos 0
sum_for-granted own q [] = refl
sum_for-granted own q (n ∷ names) = sum_for-granted own q names

-- ---- one line

only : (own other : ℕ) (b : Bool) (rows : Weighed) (q : List Cell) → (own == other) ≡ b → weight_of (cond (own == other) rows [] ++ []) q ≡ cond b (weight_of rows q) (pos 0)
only own other true rows q e = ap (λ d. weight_of (cond d rows [] ++ []) q) e ∙ ap (λ z. weight_of z q) (append-nil rows)
only own other false rows q e = ap (λ d. weight_of (cond d rows [] ++ []) q) e

-- the line of another number adds nothing
other_line : (own : ℕ) (q : List Cell) (feeds : List Feed) (l : Line) (s : Sub) → (own == s.own) ≡ false → sum_for own q (own_line feeds l s) ≡ pos 0
other_line own q feeds (reply n r) s h = refl
other_line own q feeds (change n k rows) s h = by (k == s.feed)
  where
    by : (b : Bool) → sum_for own q (cond b (changed s.own rows ∷ []) []) ≡ pos 0
    by true = only own s.own false rows q h
    by false = refl
other_line own q feeds (ended n k why rows) s h = by (k == s.feed)
  where
    by : (b : Bool) → sum_for own q (cond b (over s.own (rel_read feeds k) why rows ∷ []) []) ≡ pos 0
    by true = only own s.own false rows q h
    by false = refl

-- its own adds what the machine's line adds
this_line : (q : List Cell) (feeds : List Feed) (l : Line) (s : Sub) → sum_for s.own q (own_line feeds l s) ≡ line_weight s.feed q l
this_line q feeds (reply n r) s = refl
this_line q feeds (change n k rows) s = by (k == s.feed) refl
  where
    by : (b : Bool) → (k == s.feed) ≡ b → sum_for s.own q (cond b (changed s.own rows ∷ []) []) ≡ cond (s.feed == k) (weight_of rows q) (pos 0)
    by true e = only s.own s.own true rows q (eq-itself s.own) ∙ ap (λ b. cond b (weight_of rows q) (pos 0)) (sym (eq-turned k s.feed e))
    by false e = ap (λ b. cond b (weight_of rows q) (pos 0)) (sym (eq-false_turned k s.feed e))
this_line q feeds (ended n k why rows) s = by (k == s.feed) refl
  where
    by : (b : Bool) → (k == s.feed) ≡ b → sum_for s.own q (cond b (over s.own (rel_read feeds k) why rows ∷ []) []) ≡ cond (s.feed == k) (weight_of rows q) (pos 0)
    by true e = only s.own s.own true rows q (eq-itself s.own) ∙ ap (λ b. cond b (weight_of rows q) (pos 0)) (sym (eq-turned k s.feed e))
    by false e = ap (λ b. cond b (weight_of rows q) (pos 0)) (sym (eq-false_turned k s.feed e))

-- ---- the numbers of a client

-- they are distinct, and none is above the last one given
abbrev pub AreOwn : ℕ → List Sub → Type 0
AreOwn given [] = Unit {0}
AreOwn given (x ∷ xs) = (x.own ≤ given) × (list_any (λ (y : Sub). x.own == y.own) xs ≡ false) × AreOwn given xs

abbrev pub line_told : List Feed → Line → List Sub → List Told
line_told feeds l xs = flat_map (own_line feeds l) xs

-- of a number that is none of these, nothing is told
unrelated : (own : ℕ) (q : List Cell) (feeds : List Feed) (l : Line) (xs : List Sub) → list_any (λ (y : Sub). own == y.own) xs ≡ false → sum_for own q (line_told feeds l xs) ≡ pos 0
unrelated own q feeds l [] h = refl
unrelated own q feeds l (x ∷ xs) h =
    let e = or-both_false (own == x.own) (list_any (λ (y : Sub). own == y.own) xs) h in
    sum_for-append own q (own_line feeds l x) (line_told feeds l xs) ∙ ((λ i. other_line own q feeds l x e.0 i +ℤ unrelated own q feeds l xs e.1 i) ∙ zero_left (pos 0))

later_adds : (feeds : List Feed) (l : Line) (x : Sub) (xs ys : List Sub) → list_any (λ (y : Sub). x.own == y.own) ys ≡ false
    → AllByRecursion (λ y. (q : List Cell) → sum_for y.own q (line_told feeds l xs) ≡ line_weight y.feed q l) ys
    → AllByRecursion (λ y. (q : List Cell) → sum_for y.own q (line_told feeds l (x ∷ xs)) ≡ line_weight y.feed q l) ys
later_adds feeds l x xs [] h a = tt
later_adds feeds l x xs (y ∷ ys) h a =
    let e = or-both_false (x.own == y.own) (list_any (λ (z : Sub). x.own == z.own) ys) h in (
      λ q. sum_for-append y.own q (own_line feeds l x) (line_told feeds l xs)
          ∙ ((λ i. other_line y.own q feeds l x (eq-false_turned x.own y.own e.0) i +ℤ a.0 q i) ∙ zero_left (line_weight y.feed q l)),
      later_adds feeds l x xs ys e.1 a.1,
    )

-- for its own number a client is told what the machine says of the subscription
pub all_add : (feeds : List Feed) (l : Line) (given : ℕ) (xs : List Sub) → AreOwn given xs → AllByRecursion (λ y. (q : List Cell) → sum_for y.own q (line_told feeds l xs) ≡ line_weight y.feed q l) xs
all_add feeds l given [] h = tt
all_add feeds l given (x ∷ xs) h = (
  λ q. sum_for-append x.own q (own_line feeds l x) (line_told feeds l xs)
      ∙ ((λ i. this_line q feeds l x i +ℤ unrelated x.own q feeds l xs h.1 i) ∙ zero_right (line_weight x.feed q l)),
  later_adds feeds l x xs xs h.1 (all_add feeds l given xs h.2),
)

-- ---- many lines

pub AllByRecursion-zip : {X : Type 0} {P Q R : X → Type 0} → ((x : X) → P x → Q x → R x) → (xs : List X) → AllByRecursion P xs → AllByRecursion Q xs
    → AllByRecursion R xs
AllByRecursion-zip f [] a b = tt
AllByRecursion-zip f (x ∷ xs) a b = (f x a.0 b.0, AllByRecursion-zip f xs a.1 b.1)

pub every : {X : Type 0} {P : X → Type 0} → ((x : X) → P x) → (xs : List X) → AllByRecursion P xs
every f [] = tt
every f (x ∷ xs) = (f x, every f xs)

pub sum_for-own_lines : (feeds : List Feed) (ls : List Line) (given : ℕ) (xs : List Sub) → AreOwn given xs → AllByRecursion (λ y. (q : List Cell) → sum_for y.own q (own_lines feeds ls xs) ≡ held y.feed q ls) xs
sum_for-own_lines feeds [] given xs h = every (λ y q. refl) xs
sum_for-own_lines feeds (l ∷ ls) given xs h =
    AllByRecursion-zip {P = λ y. (q : List Cell) → sum_for y.own q (line_told feeds l xs) ≡ line_weight y.feed q l} {Q = λ y. (q : List Cell) → sum_for y.own q (own_lines feeds ls xs) ≡ held y.feed q ls}
    {R = λ y. (q : List Cell) → sum_for y.own q (own_lines feeds (l ∷ ls) xs) ≡ held y.feed q (l ∷ ls)}
    (λ y a b q. sum_for-append y.own q (line_told feeds l xs) (own_lines feeds ls xs) ∙ (λ i. a q i +ℤ b q i)) xs (all_add feeds l given xs h) (sum_for-own_lines feeds ls given xs h)

-- of a number above all that were given nothing is told
pub list_any-above_given : (given own : ℕ) (xs : List Sub) → AreOwn given xs → given < own → list_any (λ (y : Sub). own == y.own) xs ≡ false
list_any-above_given given own [] h k = refl
list_any-above_given given own (x ∷ xs) h k = (λ i. differs given own x.own h.0 k i || list_any-above_given given own xs h.2 k i)
  where
    differs : (given own x : ℕ) → x ≤ given → given < own → (own == x) ≡ false
    differs given own x a b = grind (arith, nat_tests)

pub sum_for-above : (feeds : List Feed) (ls : List Line) (given own : ℕ) (q : List Cell) (xs : List Sub) → AreOwn given xs → given < own → sum_for own q (own_lines feeds ls xs) ≡ pos 0
sum_for-above feeds [] given own q xs h k = refl
sum_for-above feeds (l ∷ ls) given own q xs h k =
    sum_for-append own q (line_told feeds l xs) (own_lines feeds ls xs)
    ∙ ((λ i. unrelated own q feeds l xs (list_any-above_given given own xs h k) i +ℤ sum_for-above feeds ls given own q xs h k i) ∙ zero_left (pos 0))

-- of a number that it has not a client is told nothing
pub sum_for-not_own : (feeds : List Feed) (ls : List Line) (own : ℕ) (q : List Cell) (xs : List Sub) → list_any (λ (y : Sub). own == y.own) xs ≡ false → sum_for own q (own_lines feeds ls xs) ≡ pos 0
sum_for-not_own feeds [] own q xs h = refl
sum_for-not_own feeds (l ∷ ls) own q xs h =
    sum_for-append own q (line_told feeds l xs) (own_lines feeds ls xs)
    ∙ ((λ i. unrelated own q feeds l xs h i +ℤ sum_for-not_own feeds ls own q xs h i) ∙ zero_left (pos 0))

-- a line more or less, in sums
pub plus-difference : (a b : ℤ) → a +ℤ (b -ℤ a) ≡ b
plus-difference a b = omega (arith, ints)

pub plus-nothing : (x y : ℤ) → y ≡ pos 0 → x +ℤ y ≡ x
plus-nothing x y h = ap (λ z. x +ℤ z) h ∙ zero_right x
