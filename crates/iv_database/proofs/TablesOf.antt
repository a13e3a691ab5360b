-- Changes of tables, one by one: where they stand, and what lists of them have at a table.
use Rattle.std.proofs.Common.{◌≡◌, ℕ, zero, suc, ◌+◌, ◌<◌, Bool, true, false, cond, not, List, [], ◌∷◌, ◌++◌, length, get_or, set, None, Some, refl, sym, ap, subst, ◌∙◌, arith}
use Rattle.std.specs.Prelude.{◌==◌, ◌||◌, Err, is_some, nat_lt, position}
use Rattle.std.specs.List.{AllByRecursion, list_any, position_or_len}
use Rattle.std.proofs.lemmas.Bool.Decides.{nat_tests}
use Rattle.iv_rows.specs.Cell.{Cell}
use Rattle.iv_zset.specs.Weights.{IsOutOfRange, Weighed, weight_of, SameZ}
use Rattle.iv_zset.proofs.Places.{IsZSet-none}
use Rattle.iv_machine.proofs.Alike.{difference-IsSorted}
use Rattle.iv_machine.proofs.Distinct.{placed_is}
use Rattle.iv_database.specs.Changes.{Change, change_at}
use Rattle.iv_algebra.specs.declared.tables.Table.{Table}
use Rattle.iv_database.specs.Summed.{AreFinished, AreTables, IsFinished, IsFirst, IsNet}
use Rattle.iv_database.specs.Stands.{HasTable}
use Rattle.iv_command.specs.declared.stop.Stop.{Stop}
use Rattle.iv_command.specs.declared.stop.Stop.TheVariants.{Refused, Memory}

abbrev Line : Type 0
Line = List Cell

-- ---- the first change of a table

abbrev of_table : ℕ → Change → Bool
of_table t c = c.rel == t

position_at : (cs : List Change) (t k : ℕ) → position_or_len (of_table t) cs ≡ k → k < length cs → IsFirst cs k t
position_at [] t k h l = absurd (omega arith)
position_at (c ∷ cs) t k h l = by (c.rel == t) refl k h l (λ j. position_at cs t j)
  where
    by : (b : Bool) → (c.rel == t) ≡ b → (k : ℕ) → cond (not b) (1 + position_or_len (of_table t) cs) 0 ≡ k → k < length (c ∷ cs) → ((j : ℕ) → position_or_len (of_table t) cs ≡ j → j < length cs → IsFirst cs j t) → IsFirst (c ∷ cs) k t
    by true e zero h l f = e
    by true e (suc k) h l f = absurd (omega arith)
    by false e zero h l f = absurd (omega arith)
    by false e (suc k) h l f = (e, f k (omega arith) (omega arith))

pub IsFirst-position : (cs : List Change) (t k : ℕ) → position (of_table t) cs ≡ Some k → IsFirst cs k t
IsFirst-position cs t k h = by (nat_lt (position_or_len (of_table t) cs) (length cs)) refl h
  where
    by : (b : Bool) → nat_lt (position_or_len (of_table t) cs) (length cs) ≡ b → cond b (Some (position_or_len (of_table t) cs)) None ≡ Some k → IsFirst cs k t
    by true e h = let i : position_or_len (of_table t) cs ≡ k = cc in position_at cs t k i (below (position_or_len (of_table t) cs) k (length cs) i e)
      where
        below : (m k n : ℕ) → m ≡ k → nat_lt m n ≡ true → k < n
        below m k n i e = grind (arith, nat_tests)
    by false e h = cc

pub lt-IsFirst : (cs : List Change) (k t : ℕ) → IsFirst cs k t → k < length cs
lt-IsFirst [] k t f = absurd f
lt-IsFirst (c ∷ cs) zero t f = omega arith
lt-IsFirst (c ∷ cs) (suc k) t f = let l = lt-IsFirst cs k t f.1 in omega arith

pub rel-IsFirst : (cs : List Change) (k t : ℕ) (s : Change) → IsFirst cs k t → s ≡ get_or cs k s → s.rel ≡ t
rel-IsFirst [] k t s f h = absurd f
rel-IsFirst (c ∷ cs) zero t s f h = ap (λ (x : Change). x.rel) h ∙ same_nat c.rel t f
  where
    same_nat : (m n : ℕ) → (m == n) ≡ true → m ≡ n
    same_nat m n h = grind (arith, nat_tests)
rel-IsFirst (c ∷ cs) (suc k) t s f h = rel-IsFirst cs k t s f.1 h

pub change_at-IsFirst : (cs : List Change) (k t : ℕ) (s : Change) → IsFirst cs k t → s ≡ get_or cs k s → change_at cs t ≡ s.rows
change_at-IsFirst [] k t s f h = absurd f
change_at-IsFirst (c ∷ cs) zero t s f h = ap (λ b. cond b c.rows (change_at cs t)) f ∙ ap (λ (x : Change). x.rows) (sym h)
change_at-IsFirst (c ∷ cs) (suc k) t s f h = ap (λ b. cond b c.rows (change_at cs t)) f.0 ∙ change_at-IsFirst cs k t s f.1 h

-- one of them changed
pub change_at-set : (cs : List Change) (k t : ℕ) (new : Change) → IsFirst cs k t → new.rel ≡ t → change_at (set cs k new) t ≡ new.rows
change_at-set [] k t new f h = absurd f
change_at-set (c ∷ cs) zero t new f h = ap (λ b. cond b new.rows (change_at cs t)) (own new.rel t h)
  where
    own : (m n : ℕ) → m ≡ n → (m == n) ≡ true
    own m n h = grind (arith, nat_tests)
change_at-set (c ∷ cs) (suc k) t new f h = ap (λ b. cond b c.rows (change_at (set cs k new) t)) f.0 ∙ change_at-set cs k t new f.1 h

pub change_at-set_elsewhere : (cs : List Change) (k t u : ℕ) (new : Change) → IsFirst cs k t → new.rel ≡ t → (t == u) ≡ false → change_at (set cs k new) u ≡ change_at cs u
change_at-set_elsewhere [] k t u new f h n = absurd f
change_at-set_elsewhere (c ∷ cs) zero t u new f h n = ap (λ b. cond b new.rows (change_at cs u)) (other new.rel t u h n) ∙ sym (ap (λ b. cond b c.rows (change_at cs u)) (other c.rel t u (same_nat c.rel t f) n))
  where
    other : (m t u : ℕ) → m ≡ t → (t == u) ≡ false → (m == u) ≡ false
    other m t u h n = grind (arith, nat_tests)

    same_nat : (m n : ℕ) → (m == n) ≡ true → m ≡ n
    same_nat m n h = grind (arith, nat_tests)
change_at-set_elsewhere (c ∷ cs) (suc k) t u new f h n = ap (λ r. cond (c.rel == u) c.rows r) (change_at-set_elsewhere cs k t u new f.1 h n)

-- no other is of a table
any_set : (cs : List Change) (k t u : ℕ) (new : Change) → IsFirst cs k t → new.rel ≡ t → list_any (λ (d : Change). u == d.rel) (set cs k new) ≡ list_any (λ (d : Change). u == d.rel) cs
any_set [] k t u new f h = absurd f
any_set (c ∷ cs) zero t u new f h = ap (λ n. (u == n) || list_any (λ (d : Change). u == d.rel) cs) (h ∙ sym (same_nat c.rel t f))
  where
    same_nat : (m n : ℕ) → (m == n) ≡ true → m ≡ n
    same_nat m n h = grind (arith, nat_tests)
any_set (c ∷ cs) (suc k) t u new f h = ap (λ b. (u == c.rel) || b) (any_set cs k t u new f.1 h)

pub AreTables-set : (tables : List Table) (cs : List Change) (k t : ℕ) (new : Change) → IsFirst cs k t → new.rel ≡ t → AreTables tables cs → AreTables tables (set cs k new)
AreTables-set tables [] k t new f h a = absurd f
AreTables-set tables (c ∷ cs) zero t new f h a = (
  subst (HasTable tables) (sym same) a.0,
  ap (λ n. list_any (λ (d : Change). n == d.rel) cs) same ∙ a.1,
  a.2,
)
  where
    same_nat : (m n : ℕ) → (m == n) ≡ true → m ≡ n
    same_nat m n h = grind (arith, nat_tests)

    same : new.rel ≡ c.rel
    same = h ∙ sym (same_nat c.rel t f)
AreTables-set tables (c ∷ cs) (suc k) t new f h a = (a.0, any_set cs k t c.rel new f.1 h ∙ a.1, AreTables-set tables cs k t new f.1 h a.2)

-- ---- one more table

pub list_any-of_table : (cs : List Change) (t : ℕ) → position (of_table t) cs ≡ None → list_any (of_table t) cs ≡ false
list_any-of_table cs t h = sym (placed_is (of_table t) cs) ∙ ap is_some h

neither : (b c : Bool) → (b || c) ≡ false → (b ≡ false) × (c ≡ false)
neither true c h = cc
neither false c h = (refl, h)

-- no row of a table that has no change
pub none_at : (cs : List Change) (t : ℕ) → list_any (of_table t) cs ≡ false → change_at cs t ≡ []
none_at [] t h = refl
none_at (c ∷ cs) t h = let x = neither (c.rel == t) (list_any (of_table t) cs) h in ap (λ b. cond b c.rows (change_at cs t)) x.0 ∙ none_at cs t x.1

pub length_push : (cs : List Change) (c : Change) → length (cs ++ c ∷ []) ≡ suc (length cs)
length_push [] c = refl
length_push (x ∷ cs) c = ap suc (length_push cs c)

-- a change with no rows behind the others
pub change_at-push_none : (cs : List Change) (new : Change) → new.rows ≡ [] → (t : ℕ) → change_at (cs ++ new ∷ []) t ≡ change_at cs t
change_at-push_none [] new h t = none (new.rel == t) new.rows h
  where
    none : (b : Bool) (rows : Weighed) → rows ≡ [] → cond b rows [] ≡ []
    none true rows h = h
    none false rows h = refl
change_at-push_none (c ∷ cs) new h t = ap (λ rest. cond (c.rel == t) c.rows rest) (change_at-push_none cs new h t)

any_pushed : (cs : List Change) (new : Change) (u : ℕ) → (u == new.rel) ≡ false → list_any (λ (d : Change). u == d.rel) (cs ++ new ∷ []) ≡ list_any (λ (d : Change). u == d.rel) cs
any_pushed [] new u h = ap (λ b. b || false) h
any_pushed (c ∷ cs) new u h = ap (λ b. (u == c.rel) || b) (any_pushed cs new u h)

pub AreTables-push : (tables : List Table) (cs : List Change) (new : Change) (t : ℕ) → new.rel ≡ t → HasTable tables t → list_any (of_table t) cs ≡ false → AreTables tables cs → AreTables tables (cs ++ new ∷ [])
AreTables-push tables [] new t e l n a = (subst (HasTable tables) (sym e) l, refl, tt)
AreTables-push tables (c ∷ cs) new t e l n a = let x = neither (c.rel == t) (list_any (of_table t) cs) n in (
  a.0,
  any_pushed cs new c.rel (ap (λ r. c.rel == r) e ∙ x.0) ∙ a.1,
  AreTables-push tables cs new t e l x.1 a.2,
)

pub IsFirst-push : (cs : List Change) (new : Change) (t : ℕ) → new.rel ≡ t → list_any (of_table t) cs ≡ false → IsFirst (cs ++ new ∷ []) (length cs) t
IsFirst-push [] new t e n = own new.rel t e
  where
    own : (m n : ℕ) → m ≡ n → (m == n) ≡ true
    own m n h = grind (arith, nat_tests)
IsFirst-push (c ∷ cs) new t e n = let x = neither (c.rel == t) (list_any (of_table t) cs) n in (x.0, IsFirst-push cs new t e x.1)

-- ---- sums that become net changes, one by one

module _ (s c : Change) (rel : c.rel ≡ s.rel) where
  any_same : (u : ℕ) (xs ys : List Change) → list_any (λ (d : Change). u == d.rel) ((xs ++ c ∷ []) ++ ys) ≡ list_any (λ (d : Change). u == d.rel) (xs ++ s ∷ ys)
  any_same u [] ys = ap (λ n. (u == n) || list_any (λ (d : Change). u == d.rel) ys) rel
  any_same u (x ∷ xs) ys = ap (λ b. (u == x.rel) || b) (any_same u xs ys)

  pub same_tables : (tables : List Table) (xs ys : List Change) → AreTables tables (xs ++ s ∷ ys) → AreTables tables ((xs ++ c ∷ []) ++ ys)
  same_tables tables [] ys a = (subst (HasTable tables) (sym rel) a.0, ap (λ n. list_any (λ (d : Change). n == d.rel) ys) rel ∙ a.1, a.2)
  same_tables tables (x ∷ xs) ys a = (a.0, any_same x.rel xs ys ∙ a.1, same_tables tables xs ys a.2)

  pub same_rows : SameZ c.rows s.rows → (t : ℕ) (xs ys : List Change) → SameZ (change_at ((xs ++ c ∷ []) ++ ys) t) (change_at (xs ++ s ∷ ys) t)
  same_rows h t [] ys q = ap (λ n. weight_of (cond (n == t) c.rows (change_at ys t)) q) rel ∙ by (s.rel == t)
    where
      by : (b : Bool) → weight_of (cond b c.rows (change_at ys t)) q ≡ weight_of (cond b s.rows (change_at ys t)) q
      by true = h q
      by false = refl
  same_rows h t (x ∷ xs) ys q = by (x.rel == t) (same_rows h t xs ys q)
    where
      by : (b : Bool) → weight_of (change_at ((xs ++ c ∷ []) ++ ys) t) q ≡ weight_of (change_at (xs ++ s ∷ ys) t) q → weight_of (cond b x.rows (change_at ((xs ++ c ∷ []) ++ ys) t)) q ≡ weight_of (cond b x.rows (change_at (xs ++ s ∷ ys) t)) q
      by true k = refl
      by false k = k

-- the one in the middle is that of its table
pub change_at-middle : (tables : List Table) (s : Change) (xs ys : List Change) → AreTables tables (xs ++ s ∷ ys) → (change_at (xs ++ s ∷ ys) s.rel ≡ s.rows) × HasTable tables s.rel
change_at-middle tables s [] ys a = (ap (λ b. cond b s.rows (change_at ys s.rel)) (own s.rel), a.0)
  where
    own : (n : ℕ) → (n == n) ≡ true
    own n = grind (arith, nat_tests)
change_at-middle tables s (x ∷ xs) ys a = let m = change_at-middle tables s xs ys a.2 in (ap (λ b. cond b x.rows (change_at (xs ++ s ∷ ys) s.rel)) (apart x.rel xs a.1) ∙ m.0, m.1)
  where
    apart : (u : ℕ) (xs : List Change) → list_any (λ (d : Change). u == d.rel) (xs ++ s ∷ ys) ≡ false → (u == s.rel) ≡ false
    apart u [] h = (neither (u == s.rel) (list_any (λ (d : Change). u == d.rel) ys) h).0
    apart u (x ∷ xs) h = apart u xs (neither (u == x.rel) (list_any (λ (d : Change). u == d.rel) (xs ++ s ∷ ys)) h).1

no_rows : IsNet []
no_rows = record {
  zset = IsZSet-none [] refl;
  difference = λ before after w. difference-IsSorted [] before after (λ k d l h. absurd (omega arith)) (IsZSet-none [] refl).distinct tt w;
}

-- all are net
pub IsNet-change_at : (cs : List Change) → AllByRecursion (λ (c : Change). IsNet c.rows) cs → (t : ℕ) → IsNet (change_at cs t)
IsNet-change_at [] a t = no_rows
IsNet-change_at (c ∷ cs) a t = by (c.rel == t) (IsNet-change_at cs a.1 t)
  where
    by : (b : Bool) → IsNet (change_at cs t) → IsNet (cond b c.rows (change_at cs t))
    by true k = a.0
    by false k = k

pub all_push : {X : Type 0} (P : X → Type 0) (xs : List X) (x : X) → AllByRecursion P xs → P x → AllByRecursion P (xs ++ x ∷ [])
all_push P [] x a h = (h, tt)
all_push P (y ∷ xs) x a h = (a.0, all_push P xs x a.1 h)

pub no_items : {X : Type 0} (xs : List X) → length xs ≡ 0 → xs ≡ []
no_items [] h = refl
no_items (x ∷ xs) h = absurd (omega arith)

-- ---- a sum that is no weight

pub AreFinished-Err : (tables : List Table) (sums : List Change) (s : Change) → HasTable tables s.rel → (IsOutOfRange s.rows → IsOutOfRange (change_at sums s.rel)) → (stop : Stop) → IsFinished s (Err stop) → AreFinished tables sums (Err stop)
AreFinished-Err tables sums s there out (Refused r) h = (h.0, (s.rel, there, out h.1))
AreFinished-Err tables sums s there out Memory h = tt
