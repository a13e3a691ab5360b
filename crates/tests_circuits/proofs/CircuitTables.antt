-- Tables that change, and circuits over them.
use Rattle.std.proofs.Common.{◌≡◌, ◌≢◌, ◌∙◌, ℕ, ℤ, pos, ◌+ℤ◌, ◌-ℤ◌, ◌≤ℤ◌, true, List, [], ◌∷◌, ◌++◌, ap, sym, subst, refl, arith, ⊎_elim}
use Rattle.std.specs.Prelude.{◌⊎◌, Option, option_map}
use Rattle.std.proofs.lemmas.Int.{ints}
use Rattle.iv_rows.specs.Columns.{accepts, kinds_of}
use Rattle.iv_zset.specs.Limits.{copies, Counts}
use Rattle.iv_zset.specs.Support.{list_behind}
use Rattle.iv_zset.specs.Weights.{Weighed, weight_of, SameZ, IsBag}
use Rattle.iv_zset.proofs.Places.{weight_of-append}
use Rattle.iv_zset.proofs.Sums.{weight_at}
use Rattle.iv_algebra.specs.Contents.{AreOf, heads_of, rows_of, rows_or_none, table_of}
use Rattle.iv_algebra.specs.Fits.{or_nothing}
use Rattle.iv_algebra.specs.Rows.{Cells}
use Rattle.iv_algebra.specs.declared.tables.Table.{Table}
use Rattle.iv_access.specs.Policies.{allowed}
use Rattle.iv_circuit.specs.Changing.{Given, IsReady}
use Rattle.iv_circuit.specs.Circuits.{IsTurned, ReadersFollow, Running}
use Rattle.iv_circuit.specs.Nodes.{Scanned}
use Rattle.iv_circuit.proofs.NodesFromTables.{All-from_each}
use Rattle.tests_circuits.specs.Worlds.{AreSound, HasMore, IsReader, IsSound, LeadTo, SameHeads}

pub same_or_not : (m n : ℕ) → (m ≡ n) ⊎ (m ≢ n)
same_or_not m n = grind arith

-- ---- tables

pub IsSound-no_rows : (tables : List Table) (n : ℕ) → rows_of tables n ≡ [] → IsSound tables n
IsSound-no_rows tables n e = record {
  bag = subst IsBag (sym e) (λ q. at_least);
  kinds = λ q some. absurd (some (ap (λ es. weight_of es q) e));
}
  where
    at_least : pos 0 ≤ℤ pos 0
    at_least = omega (arith, ints)

pub same_sound : (old new : List Table) (n : ℕ) → table_of new n ≡ table_of old n → IsSound old n → IsSound new n
same_sound old new n e s = record {
  bag = subst (λ (o : Option Table). IsBag (rows_or_none o)) (sym e) s.bag;
  kinds = subst (λ (o : Option Table). AreOf (or_nothing (option_map (λ t. kinds_of t.schema) o)) (rows_or_none o)) (sym e) s.kinds;
}

pub AreSound-one_changed : (old new : List Table) (table : ℕ) → AreSound old → IsSound new table → ((n : ℕ) → n ≢ table → table_of new n ≡ table_of old n) → AreSound new
AreSound-one_changed old new table s own others n =
    ⊎_elim (λ e. subst (λ (k : ℕ). IsSound new k) (sym e) own) (λ d. same_sound old new n (others n d) (s n)) (same_or_not n table)

pub HasMore-SameZ : (old new : List Table) (table : ℕ) (row : Cells) (copies : ℤ) → SameZ (rows_of new table) ((row, copies) ∷ rows_of old table)
    → ((n : ℕ) → n ≢ table → table_of new n ≡ table_of old n) → HasMore table row copies (rows_of old) (rows_of new)
HasMore-SameZ old new table row copies own others = record { own = own; others = λ n d. ap rows_or_none (others n d) }

-- ---- changes

pub lead_nowhere : (tables : List Table) → LeadTo tables tables (λ n. [])
lead_nowhere tables n q = refl

lead_own : (x y z w v : ℤ) → w ≡ x +ℤ v → v ≡ y +ℤ z → w ≡ (x +ℤ y) +ℤ z
lead_own x y z w v h k = omega (arith, ints, h, k)

pub LeadTo-HasMore : (base old new : List Table) (before after : Given) (table : ℕ) (row : Cells) (copies : ℤ)
    → HasMore table row copies (rows_of old) (rows_of new)
    → SameZ (after table) ((row, copies) ∷ before table) → ((n : ℕ) → n ≢ table → after n ≡ before n) → LeadTo base old before → LeadTo base new after
LeadTo-HasMore base old new before after table row copies more own others leads n =
    ⊎_elim
    (λ e. subst (λ (k : ℕ). SameZ (rows_of new k) (after k ++ rows_of base k)) (sym e) (λ q.
    lead_own (weight_at row copies q) (weight_of (before table) q) (weight_of (rows_of base table) q) (weight_of (rows_of new table) q) (weight_of (rows_of old table) q)
    (more.own q) (leads table q ∙ weight_of-append (before table) (rows_of base table) q)
    ∙ ap (λ w. w +ℤ weight_of (rows_of base table) q) (sym (own q))
    ∙ sym (weight_of-append (after table) (rows_of base table) q)))
    (λ d. subst (λ (es : Weighed). SameZ es (after n ++ rows_of base n)) (sym (more.others n d))
    (subst (λ (es : Weighed). SameZ (rows_of old n) (es ++ rows_of base n)) (sym (others n d)) (leads n)))
    (same_or_not n table)

-- ---- circuits

module _ (old new : List Table) (c : Running) (given : Given) (follow : ReadersFollow) (lists : (es : Weighed) → IsBag es → Counts es (list_behind es))
    (reader : IsReader old c) (before : AreSound old) (after : AreSound new) (same : SameHeads old new) (leads : LeadTo old new given) where
  difference : (v w x : ℤ) (m n : ℕ) → v ≡ w +ℤ x → x ≡ pos m → v ≡ pos n → w ≡ pos n -ℤ pos m
  difference v w x m n h k l = omega (arith, ints, h, k, l)

  number : (n : ℕ) → pos n ≡ pos 0 → n ≡ 0
  number n h = omega (arith, ints, h)

  turned : (s : Scanned) → IsTurned (heads_of old) given (λ n. list_behind (rows_of old n)) (λ n. list_behind (rows_of new n)) s
  turned s = record {
    moves = λ q.
        difference (weight_of (rows_of new s.table) q) (weight_of (given s.table) q) (weight_of (rows_of old s.table) q)
        (copies q (list_behind (rows_of old s.table))) (copies q (list_behind (rows_of new s.table)))
        (leads s.table q ∙ weight_of-append (given s.table) (rows_of old s.table) q)
        (lists (rows_of old s.table) (before s.table).bag q) (lists (rows_of new s.table) (after s.table).bag q);
    kinds =
        All-from_each (λ row. accepts (or_nothing (heads_of old s.table)) row ≡ true) (list_behind (rows_of new s.table)) (λ q n.
        subst (λ ks. accepts (or_nothing ks) q ≡ true) (same s.table)
        ((after s.table).kinds q (λ e. n (number (copies q (list_behind (rows_of new s.table))) (sym (lists (rows_of new s.table) (after s.table).bag q) ∙ e)))));
  }

  pub ready : IsReady c.cap c.node given
  ready = record {
    before = allowed reader.rights reader.role (λ n. list_behind (rows_of old n));
    after = allowed reader.rights reader.role (λ n. list_behind (rows_of new n));
    stands = reader.stands (λ n. list_behind (rows_of old n)) (λ n there. lists (rows_of old n) (before n).bag);
    leads = follow (heads_of old) reader.rights reader.role c.node given (λ n. list_behind (rows_of old n)) (λ n. list_behind (rows_of new n)) reader.scans (λ k d lt. turned _);
  }
