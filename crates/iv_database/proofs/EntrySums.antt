-- What the entries of a write add to tables, entry by entry.
use Rattle.std.proofs.Common.{◌≡◌, ℕ, ◌+◌, ◌*◌, ◌<◌, ◌≤◌, ◌^◌, Bool, true, false, cond, not, ◌&&◌, List, [], ◌∷◌, ◌++◌, get_or, set, ℤ, pos, ◌+ℤ◌, Some, refl, sym, ap, subst, ◌∙◌, arith, ⊎_elim}
use Rattle.std.specs.Prelude.{◌==◌, ◌≤ℤ◌, ◌-ℤ◌, nat_le, nat_lt}
use Rattle.std.proofs.lemmas.Int.{ints}
use Rattle.std.proofs.lemmas.Bool.Decides.{nat_tests, eqb_tells}
use Rattle.iv_rows.specs.Cell.{Cell}
use Rattle.iv_rows.specs.Order.{row_eq}
use Rattle.iv_zset.specs.Limits.{copies, Counts}
use Rattle.iv_zset.specs.Weights.{Weighed, weight_of}
use Rattle.iv_zset.proofs.Places.{weight_of-append}
use Rattle.iv_algebra.specs.Plans.{Lists}
use Rattle.iv_bind.specs.Catalogs as catalogs
use Rattle.iv_algebra.specs.Contents.{rows_of}
use Rattle.iv_algebra.specs.declared.tables.Table.{Table}
use Rattle.iv_machine.specs.Act.{Entry, Op, insert, delete, update, no_such_row}
use Rattle.iv_machine.specs.Added.{adds}
use Rattle.iv_machine.specs.Changing.{after_entry, changed_by}
use Rattle.iv_machine.specs.Refusing.{entries_present, is_present, or_else, test}
use Rattle.iv_machine.specs.State.{rel_of}
use Rattle.iv_machine.specs.Parts.{is_positive}
use Rattle.iv_machine.proofs.CopiesAfterWrite.{copies-changed_by}
use Rattle.iv_database.specs.Changes.{Change, change_at}
use Rattle.iv_database.specs.Placed.{Placed, entry_of}
use Rattle.iv_database.specs.Stands.{Stands}
use Rattle.iv_database.specs.Summed.{AreSmall, AreTables, IsFirst, LeadTo}
use Rattle.iv_database.proofs.TablesOf.{rel-IsFirst, change_at-IsFirst, change_at-set_elsewhere, change_at-set, AreTables-set}

abbrev pub Line : Type 0
Line = List Cell

-- ---- the sums of one table

module _ (sums0 sums : List Change) (k t : ℕ) (s : Change) (first : IsFirst sums k t) (was : s ≡ get_or sums k s) (same : (u : ℕ) → change_at sums u ≡ change_at sums0 u) where
  table_rows : change_at sums0 t ≡ s.rows
  table_rows = sym (same t) ∙ change_at-IsFirst sums k t s first was

  pub table_small : AreSmall 1000 (change_at sums0 t) → AreSmall 1000 s.rows
  table_small h = subst (AreSmall 1000) table_rows h

  pub table_leads : (tables : List Table) (V : Lists) (bag : Weighed) → LeadTo sums0 tables V → rows_of tables t ≡ bag → Counts (s.rows ++ bag) (V t)
  table_leads tables V bag lead e = subst (λ b. Counts (s.rows ++ b) (V t)) e (subst (λ r. Counts (r ++ rows_of tables t) (V t)) table_rows (lead t))

  module _ (new : Change) (rel : new.rel ≡ s.rel) where
    of_table : new.rel ≡ t
    of_table = rel ∙ rel-IsFirst sums k t s first was

    pub table_set : (tables : List Table) → AreTables tables sums → AreTables tables (set sums k new)
    table_set tables a = AreTables-set tables sums k t new first of_table a

    pub table_added : (add : Line → ℤ) → ((q : Line) → weight_of new.rows q ≡ weight_of s.rows q +ℤ add q) → (u : ℕ) (q : Line) → weight_of (change_at (set sums k new) u) q ≡ weight_of (change_at sums0 u) q +ℤ cond (t == u) (add q) (pos 0)
    table_added add more u q = ⊎_elim
        (λ y. subst (λ v. weight_of (change_at (set sums k new) v) q ≡ weight_of (change_at sums0 v) q +ℤ cond (t == v) (add q) (pos 0)) y.1
        (ap (λ rows. weight_of rows q) (change_at-set sums k t new first of_table) ∙ more q
        ∙ (λ i. weight_of (sym table_rows i) q +ℤ cond (sym (own t) i) (add q) (pos 0))))
        (λ n. ap (λ rows. weight_of rows q) (change_at-set_elsewhere sums k t u new first of_table n.0 ∙ same u) ∙ no_more (weight_of (change_at sums0 u) q)
        ∙ ap (λ b. weight_of (change_at sums0 u) q +ℤ cond b (add q) (pos 0)) (sym n.0))
        (eqb_tells t u)
      where
        own : (n : ℕ) → (n == n) ≡ true
        own n = grind (arith, nat_tests)

        no_more : (w : ℤ) → w ≡ w +ℤ pos 0
        no_more w = omega (arith, ints)

-- ---- the size of sums

pub AreSmall-none : (n : ℕ) → AreSmall n []
AreSmall-none n q = let m : 0 ≤ n * 2 ^ 63 = omega arith in (omega (arith, ints), omega (arith, ints))

pub AreSmall-more : (n m : ℕ) (es : Weighed) → n ≤ m → AreSmall n es → AreSmall m es
AreSmall-more n m es l h q = let a = (h q).0 in let b = (h q).1 in let k : n * 2 ^ 63 ≤ m * 2 ^ 63 = omega arith in (omega (arith, ints), omega (arith, ints))

pub le-is_positive : (c : ℕ) → is_positive c ≡ true → c ≤ 2 ^ 63
le-is_positive c h = by (nat_le 1 c) (nat_lt c (2 ^ 63)) refl h
  where
    below : nat_lt c (2 ^ 63) ≡ true → c ≤ 2 ^ 63
    below h = let l : c < 2 ^ 63 = grind (arith, nat_tests) in omega arith

    by : (a b : Bool) → nat_lt c (2 ^ 63) ≡ b → (a && b) ≡ true → c ≤ 2 ^ 63
    by true true e h = below e
    by true false e h = cc
    by false b e h = cc

-- an entry adds at most as many copies as it has
adds_few : (op : Op) (c : ℕ) (q : Line) → c ≤ 2 ^ 63 → (pos 0 ≤ℤ (adds op c q +ℤ pos (2 ^ 63))) × (adds op c q ≤ℤ pos (2 ^ 63))
adds_few (insert new) c q l = one (row_eq q new)
  where
    one : (b : Bool) → (pos 0 ≤ℤ (pos (cond b c 0) +ℤ pos (2 ^ 63))) × (pos (cond b c 0) ≤ℤ pos (2 ^ 63))
    one true = (omega (arith, ints), omega (arith, ints))
    one false = (omega (arith, ints), omega (arith, ints))
adds_few (delete old) c q l = one (row_eq q old)
  where
    one : (b : Bool) → (pos 0 ≤ℤ ((pos 0 -ℤ pos (cond b c 0)) +ℤ pos (2 ^ 63))) × ((pos 0 -ℤ pos (cond b c 0)) ≤ℤ pos (2 ^ 63))
    one true = (omega (arith, ints), omega (arith, ints))
    one false = (omega (arith, ints), omega (arith, ints))
adds_few (update old new) c q l = two (row_eq q new) (row_eq q old)
  where
    two : (a b : Bool) → (pos 0 ≤ℤ ((pos (cond a c 0) -ℤ pos (cond b c 0)) +ℤ pos (2 ^ 63))) × ((pos (cond a c 0) -ℤ pos (cond b c 0)) ≤ℤ pos (2 ^ 63))
    two true true = (omega (arith, ints), omega (arith, ints))
    two true false = (omega (arith, ints), omega (arith, ints))
    two false true = (omega (arith, ints), omega (arith, ints))
    two false false = (omega (arith, ints), omega (arith, ints))

pub AreSmall-next : (n : ℕ) (old new : Weighed) (op : Op) (c : ℕ) (b : Bool) → c ≤ 2 ^ 63 → AreSmall n old → ((q : Line) → weight_of new q ≡ weight_of old q +ℤ cond b (adds op c q) (pos 0)) → AreSmall (n + 1) new
AreSmall-next n old new op c b l s more q = by b (weight_of new q) (weight_of old q) (adds op c q) (adds_few op c q l) (s q) (more q)
  where
    by : (b : Bool) (v w a : ℤ) → (pos 0 ≤ℤ (a +ℤ pos (2 ^ 63))) × (a ≤ℤ pos (2 ^ 63)) → (pos 0 ≤ℤ (w +ℤ pos (n * 2 ^ 63))) × (w ≤ℤ pos (n * 2 ^ 63)) → v ≡ w +ℤ cond b a (pos 0) → (pos 0 ≤ℤ (v +ℤ pos ((n + 1) * 2 ^ 63))) × (v ≤ℤ pos ((n + 1) * 2 ^ 63))
    by true v w a f s e = let x = f.0 in let y = f.1 in let u = s.0 in let t = s.1 in (omega (arith, ints), omega (arith, ints))
    by false v w a f s e = let u = s.0 in let t = s.1 in (omega (arith, ints), omega (arith, ints))

-- ---- the entries one by one

module _ (catalog : List catalogs.CatalogEntry) (p : Placed) (number : rel_of catalog p.name ≡ p.rel) (n : ℕ) (es : List Entry) (V : Lists) where
  -- what the entry leaves
  abbrev pub W : Lists
  W = after_entry catalog (entry_of p) V

  present_by : (b : Bool) → b ≡ is_present p.op p.copies (V p.rel) → entries_present catalog n (entry_of p ∷ es) V ≡ or_else (test (not b) (no_such_row n)) (entries_present catalog (n + 1) es W)
  present_by b h = ap (λ r. or_else (test (not (is_present p.op p.copies (V r))) (no_such_row n)) (entries_present catalog (n + 1) es W)) number
      ∙ ap (λ x. or_else (test (not x) (no_such_row n)) (entries_present catalog (n + 1) es W)) (sym h)

  pub not_found : false ≡ is_present p.op p.copies (V p.rel) → entries_present catalog n (entry_of p ∷ es) V ≡ Some (no_such_row n)
  not_found h = present_by false h

  pub found : true ≡ is_present p.op p.copies (V p.rel) → entries_present catalog n (entry_of p ∷ es) V ≡ entries_present catalog (n + 1) es W
  found h = present_by true h

  left_here : (t : ℕ) (q : Line) → true ≡ is_present p.op p.copies (V p.rel) → pos (copies q (W t)) ≡ pos (copies q (V t)) +ℤ cond (p.rel == t) (adds p.op p.copies q) (pos 0)
  left_here t q h = ap (λ r. pos (copies q (cond (r == t) (changed_by p.op p.copies (V t)) (V t)))) number ∙ ⊎_elim
      (λ y. subst (λ u. pos (copies q (cond (p.rel == u) (changed_by p.op p.copies (V u)) (V u))) ≡ pos (copies q (V u)) +ℤ cond (p.rel == u) (adds p.op p.copies q) (pos 0)) y.1
      (ap (λ b. pos (copies q (cond b (changed_by p.op p.copies (V p.rel)) (V p.rel)))) (own p.rel)
      ∙ copies-changed_by q p.op p.copies (V p.rel) (sym h)
      ∙ ap (λ b. pos (copies q (V p.rel)) +ℤ cond b (adds p.op p.copies q) (pos 0)) (sym (own p.rel))))
      (λ m. ap (λ b. pos (copies q (cond b (changed_by p.op p.copies (V t)) (V t)))) m.0 ∙ no_more (pos (copies q (V t)))
      ∙ ap (λ b. pos (copies q (V t)) +ℤ cond b (adds p.op p.copies q) (pos 0)) (sym m.0))
      (eqb_tells p.rel t)
    where
      own : (n : ℕ) → (n == n) ≡ true
      own n = grind (arith, nat_tests)

      no_more : (w : ℤ) → w ≡ w +ℤ pos 0
      no_more w = omega (arith, ints)

  pub leads_on : (sums new : List Change) (tables : List Table) → true ≡ is_present p.op p.copies (V p.rel) → LeadTo sums tables V → ((t : ℕ) (q : Line) → weight_of (change_at new t) q ≡ weight_of (change_at sums t) q +ℤ cond (p.rel == t) (adds p.op p.copies q) (pos 0)) → LeadTo new tables W
  leads_on sums new tables h lead more t q = weight_of-append (change_at new t) (rows_of tables t) q
      ∙ swap (weight_of (change_at new t) q) (weight_of (change_at sums t) q) (cond (p.rel == t) (adds p.op p.copies q) (pos 0)) (weight_of (rows_of tables t) q) (pos (copies q (V t))) (more t q) (sym (weight_of-append (change_at sums t) (rows_of tables t) q) ∙ lead t q)
      ∙ sym (left_here t q h)
    where
      swap : (v w a b r : ℤ) → v ≡ w +ℤ a → w +ℤ b ≡ r → v +ℤ b ≡ r +ℤ a
      swap v w a b r h k = omega (arith, ints)

pub LeadTo-none : (tables : List Table) (T : Lists) → Stands T tables → LeadTo [] tables T
LeadTo-none tables T s t = s t
