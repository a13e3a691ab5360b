-- A difference has its weights, rises, and has no weight 0.
use Rattle.std.proofs.Common.{◌≡◌, ◌≢◌, ℕ, ◌+◌, Bool, true, false, not, ◌||◌, cond, List, [], ◌∷◌, ◌++◌, map, ℤ, pos, refl, sym, ap, subst, ◌∙◌, arith}
use Rattle.std.specs.Prelude.{filter, ◌+ℤ◌, ◌-ℤ◌}
use Rattle.std.specs.List.{list_any, AllByRecursion}
use Rattle.std.specs.Map.{keys_of}
use Rattle.std.specs.Ordering.{int_eq, is_eq, ordering_reverse}
use Rattle.std.specs.declared.cmp.Ordering.{Ordering}
use Rattle.std.specs.declared.cmp.Ordering.TheVariants.{Less, Equal, Greater}
use Rattle.std.proofs.lemmas.Int.{ints}
use Rattle.std.proofs.lemmas.Bool.Decides.{Decides-int_eq}
use Rattle.iv_rows.specs.Cell.{Cell}
use Rattle.iv_rows.specs.Order.{row_cmp, row_eq}
use Rattle.iv_rows.specs.OrderLaws.{row_cmp_total, row_eq_decides, exact_rows}
use Rattle.iv_zset.specs.Weights.{Weighed, weight_of}
use Rattle.iv_zset.specs.Limits.{copies}
use Rattle.iv_machine.specs.Machine.{insert_row, place_row, rising_rows, weight, weighted, is_change, difference}

-- the row is before each of these
abbrev pub IsBelow : List Cell → List (List Cell) → Type 0
IsBelow r rows = AllByRecursion (λ s. row_cmp r s ≡ Less) rows

-- each row is before all that follow
abbrev pub AreRising : List (List Cell) → Type 0
AreRising [] = Unit {0}
AreRising (r ∷ rows) = IsBelow r rows × AreRising rows

-- no weight is 0
abbrev pub NoZero : Weighed → Type 0
NoZero rows = AllByRecursion (λ e. e.1 ≢ pos 0) rows

pub IsBelow-Less : (r s : List Cell) (rows : List (List Cell)) → row_cmp r s ≡ Less → IsBelow s rows → IsBelow r rows
IsBelow-Less r s [] h b = tt
IsBelow-Less r s (x ∷ rows) h b = (row_cmp_total.trans r s x h b.0, IsBelow-Less r s rows h b.1)

pub row_cmp-Greater : (r s : List Cell) → row_cmp r s ≡ Greater → row_cmp s r ≡ Less
row_cmp-Greater r s h = row_cmp_total.antisymm s r ∙ ap ordering_reverse h

-- ---- rising_rows rise

below_place : (x r s : List Cell) (rows placed : List (List Cell)) (o : Ordering) → row_cmp x r ≡ Less → row_cmp x s ≡ Less → IsBelow x rows → IsBelow x placed → IsBelow x (place_row o r s rows placed)
below_place x r s rows placed Less h k b p = (h, (k, b))
below_place x r s rows placed Equal h k b p = (k, b)
below_place x r s rows placed Greater h k b p = (k, p)

below_insert : (x r : List Cell) (rows : List (List Cell)) → row_cmp x r ≡ Less → IsBelow x rows → IsBelow x (insert_row r rows)
below_insert x r [] h b = (h, tt)
below_insert x r (s ∷ rows) h b = below_place x r s rows (insert_row r rows) (row_cmp r s) h b.0 b.1 (below_insert x r rows h b.1)

rising_place : (r s : List Cell) (rows placed : List (List Cell)) (o : Ordering) → row_cmp r s ≡ o → AreRising (s ∷ rows) → (row_cmp s r ≡ Less → IsBelow s placed) → AreRising placed → AreRising (place_row o r s rows placed)
rising_place r s rows placed Less h u b p = ((h, IsBelow-Less r s rows h u.0), u)
rising_place r s rows placed Equal h u b p = u
rising_place r s rows placed Greater h u b p = (b (row_cmp-Greater r s h), p)

rising_insert : (r : List Cell) (rows : List (List Cell)) → AreRising rows → AreRising (insert_row r rows)
rising_insert r [] u = (tt, tt)
rising_insert r (s ∷ rows) u = rising_place r s rows (insert_row r rows) (row_cmp r s) refl u (λ h. below_insert s r rows h u.0) (rising_insert r rows u.1)

pub rising_rise : (rows : List (List Cell)) → AreRising (rising_rows rows)
rising_rise [] = tt
rising_rise (r ∷ rows) = rising_insert r (rising_rows rows) (rising_rise rows)

-- ---- and have the rows

or_swap : (a b c : Bool) → (a || (b || c)) ≡ (b || (a || c))
or_swap true true c = refl
or_swap true false c = refl
or_swap false b c = refl

or_twice : (a c : Bool) → (a || c) ≡ (a || (a || c))
or_twice true c = refl
or_twice false c = refl

any_place : (q r s : List Cell) (rows placed : List (List Cell)) (o : Ordering) → row_cmp r s ≡ o → list_any (row_eq q) placed ≡ (row_eq q r || list_any (row_eq q) rows) → list_any (row_eq q) (place_row o r s rows placed) ≡ (row_eq q r || (row_eq q s || list_any (row_eq q) rows))
any_place q r s rows placed Less h e = refl
any_place q r s rows placed Equal h e = let same : r ≡ s = exact_rows r s h in
    or_twice (row_eq q s) (list_any (row_eq q) rows) ∙ ap (λ z. row_eq q z || (row_eq q s || list_any (row_eq q) rows)) (sym same)
any_place q r s rows placed Greater h e = ap (λ b. row_eq q s || b) e ∙ or_swap (row_eq q s) (row_eq q r) (list_any (row_eq q) rows)

any_insert : (q r : List Cell) (rows : List (List Cell)) → list_any (row_eq q) (insert_row r rows) ≡ (row_eq q r || list_any (row_eq q) rows)
any_insert q r [] = refl
any_insert q r (s ∷ rows) = any_place q r s rows (insert_row r rows) (row_cmp r s) refl (any_insert q r rows)

pub any_rising : (q : List Cell) (rows : List (List Cell)) → list_any (row_eq q) (rising_rows rows) ≡ list_any (row_eq q) rows
any_rising q [] = refl
any_rising q (r ∷ rows) = any_insert q r (rising_rows rows) ∙ ap (λ b. row_eq q r || b) (any_rising q rows)

-- ---- weights of a difference

pub zero_left : (z : ℤ) → pos 0 +ℤ z ≡ z
zero_left z = omega (arith, ints)

pub zero_right : (z : ℤ) → z +ℤ pos 0 ≡ z
zero_right z = omega (arith, ints)

pub is_eq-Less : (o : Ordering) → o ≡ Less → is_eq o ≡ false
is_eq-Less Less h = refl
is_eq-Less Equal h = cc
is_eq-Less Greater h = cc

pub below_none : (r : List Cell) (rows : List (List Cell)) → IsBelow r rows → list_any (row_eq r) rows ≡ false
below_none r [] b = refl
below_none r (s ∷ rows) b = ap (λ x. x || list_any (row_eq r) rows) (is_eq-Less (row_cmp r s) b.0) ∙ below_none r rows b.1

-- the weight of a row, where the rows are different
pub cond-or : (b t : Bool) (w v i : ℤ) → (b ≡ true → v ≡ w) → (b ≡ true → t ≡ false) → i ≡ cond t w (pos 0) → cond b v (pos 0) +ℤ i ≡ cond (b || t) w (pos 0)
cond-or true t w v i h k e = ap (λ x. v +ℤ x) (e ∙ ap (λ c. cond c w (pos 0)) (k refl)) ∙ zero_right v ∙ h refl
cond-or false t w v i h k e = zero_left i ∙ e

all_weigh : (q : List Cell) (a b ks : List (List Cell)) → AreRising ks → weight_of (map (weighted a b) ks) q ≡ cond (list_any (row_eq q) ks) (weight a b q) (pos 0)
all_weigh q a b [] u = refl
all_weigh q a b (k ∷ ks) u = cond-or (row_eq q k) (list_any (row_eq q) ks) (weight a b q) (weight a b k) (weight_of (map (weighted a b) ks) q)
    (λ h. ap (weight a b) (sym ((row_eq_decides q k).0 h)))
    (λ h. ap (λ x. list_any (row_eq x) ks) ((row_eq_decides q k).0 h) ∙ below_none k ks u.0)
    (all_weigh q a b ks u.1)

zero_at : (b : Bool) (w : ℤ) → w ≡ pos 0 → cond b w (pos 0) ≡ pos 0
zero_at true w h = h
zero_at false w h = refl

kept_weigh : (z : Bool) (q : List Cell) (p : List Cell × ℤ) (ps : Weighed) → int_eq p.1 (pos 0) ≡ z → weight_of (filter is_change ps) q ≡ weight_of ps q → weight_of (cond (not z) (p ∷ filter is_change ps) (filter is_change ps)) q ≡ weight_of (p ∷ ps) q
kept_weigh true q p ps e h = h ∙ sym (ap (λ w. w +ℤ weight_of ps q) (zero_at (row_eq q p.0) p.1 ((Decides-int_eq p.1 (pos 0)).0 e)) ∙ zero_left (weight_of ps q))
kept_weigh false q p ps e h = ap (λ w. cond (row_eq q p.0) p.1 (pos 0) +ℤ w) h

changes_weigh : (q : List Cell) (ps : Weighed) → weight_of (filter is_change ps) q ≡ weight_of ps q
changes_weigh q [] = refl
changes_weigh q (p ∷ ps) = kept_weigh (int_eq p.1 (pos 0)) q p ps refl (changes_weigh q ps)

either : (b c : Bool) → (b || c) ≡ false → (b ≡ false) × (c ≡ false)
either true c h = cc
either false c h = (refl, h)

pub none_copies : (q : List Cell) (rows : List (List Cell)) → list_any (row_eq q) rows ≡ false → copies q rows ≡ 0
none_copies q [] h = refl
none_copies q (r ∷ rows) h = let e = either (row_eq q r) (list_any (row_eq q) rows) h in ap (λ b. cond b 1 0 + copies q rows) e.0 ∙ ap (λ n. 0 + n) (none_copies q rows e.1)

none_both : (q : List Cell) (xs ys : List (List Cell)) → list_any (row_eq q) (xs ++ ys) ≡ false → (copies q xs ≡ 0) × (copies q ys ≡ 0)
none_both q [] ys h = (refl, none_copies q ys h)
none_both q (x ∷ xs) ys h =
    let e = either (row_eq q x) (list_any (row_eq q) (xs ++ ys)) h in
    let g = none_both q xs ys e.1 in
    (ap (λ b. cond b 1 0 + copies q xs) e.0 ∙ ap (λ n. 0 + n) g.0, g.1)

weighs_by : (t : Bool) (w : ℤ) → (t ≡ false → w ≡ pos 0) → cond t w (pos 0) ≡ w
weighs_by true w h = refl
weighs_by false w h = sym (h refl)

pub weight_of-difference : (a b : List (List Cell)) (q : List Cell) → weight_of (difference a b) q ≡ weight a b q
weight_of-difference a b q = changes_weigh q (map (weighted a b) (rising_rows (a ++ b)))
    ∙ all_weigh q a b (rising_rows (a ++ b)) (rising_rise (a ++ b))
    ∙ ap (λ t. cond t (weight a b q) (pos 0)) (any_rising q (a ++ b))
    ∙ weighs_by (list_any (row_eq q) (a ++ b)) (weight a b q) (λ h. let n = none_both q a b h in ap (λ (k : ℕ × ℕ). pos k.1 -ℤ pos k.0) (λ i. (n.0 i, n.1 i)))

-- ---- a difference rises, and has no zero

below_kept : (z : Bool) (r : List Cell) (p : List Cell × ℤ) (ps : Weighed) → IsBelow r (keys_of (p ∷ ps)) → IsBelow r (keys_of (filter is_change ps)) → IsBelow r (keys_of (cond (not z) (p ∷ filter is_change ps) (filter is_change ps)))
below_kept true r p ps b h = h
below_kept false r p ps b h = (b.0, h)

below_changes : (r : List Cell) (ps : Weighed) → IsBelow r (keys_of ps) → IsBelow r (keys_of (filter is_change ps))
below_changes r [] b = tt
below_changes r (p ∷ ps) b = below_kept (int_eq p.1 (pos 0)) r p ps b (below_changes r ps b.1)

rising_kept : (z : Bool) (p : List Cell × ℤ) (ps : Weighed) → int_eq p.1 (pos 0) ≡ z → IsBelow p.0 (keys_of ps) → AreRising (keys_of (filter is_change ps)) × NoZero (filter is_change ps) → AreRising (keys_of (cond (not z) (p ∷ filter is_change ps) (filter is_change ps))) × NoZero (cond (not z) (p ∷ filter is_change ps) (filter is_change ps))
rising_kept true p ps e b h = h
rising_kept false p ps e b h = ((below_changes p.0 ps b, h.0), ((λ k. differs (sym ((Decides-int_eq p.1 (pos 0)).1 k) ∙ e)), h.1))
  where
    differs : true ≡ false → ⊥
    differs h = cc

rising_changes : (ps : Weighed) → AreRising (keys_of ps) → AreRising (keys_of (filter is_change ps)) × NoZero (filter is_change ps)
rising_changes [] u = (tt, tt)
rising_changes (p ∷ ps) u = rising_kept (int_eq p.1 (pos 0)) p ps refl u.0 (rising_changes ps u.1)

keys_weighted : (a b ks : List (List Cell)) → keys_of (map (weighted a b) ks) ≡ ks
keys_weighted a b [] = refl
keys_weighted a b (k ∷ ks) = ap (λ xs. k ∷ xs) (keys_weighted a b ks)

pub AreRising-difference : (a b : List (List Cell)) → AreRising (keys_of (difference a b)) × NoZero (difference a b)
AreRising-difference a b = rising_changes (map (weighted a b) (rising_rows (a ++ b))) (subst AreRising (sym (keys_weighted a b (rising_rows (a ++ b)))) (rising_rise (a ++ b)))
