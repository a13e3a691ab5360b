-- What the tables are once they have taken in the changes of a write.
use Rattle.std.proofs.Common.{◌≡◌, ◌≢◌, ℕ, zero, suc, true, List, [], ◌++◌, ℤ, pos, ◌+ℤ◌, Option, None, Some, refl, sym, ap, subst, ◌∙◌, arith}
use Rattle.std.specs.Prelude.{◌≤ℤ◌, option_map}
use Rattle.std.proofs.lemmas.Int.{ints}
use Rattle.iv_rows.specs.Cell.{Cell}
use Rattle.iv_rows.specs.Columns.{Column, accepts, kinds_of}
use Rattle.iv_zset.specs.Limits.{copies}
use Rattle.iv_zset.specs.Support.{list_behind}
use Rattle.iv_zset.specs.Weights.{weight_of}
use Rattle.iv_zset.proofs.Behind.{Counts-list_behind}
use Rattle.iv_zset.proofs.Places.{weight_of-append}
use Rattle.iv_zset.proofs.Support.{rows_in-SameZ, rows_in-IsZSet}
use Rattle.iv_algebra.specs.Contents.{AreOf, heads_of, rows_of}
use Rattle.iv_algebra.specs.Fits.{or_nothing}
use Rattle.iv_algebra.specs.Plans.{Lists}
use Rattle.iv_bind.specs.Catalogs.{schema_of}
use Rattle.iv_machine.proofs.TableKinds.{HasKinds-after}
use Rattle.iv_machine.specs.Act.{Entry, write}
use Rattle.iv_machine.specs.Sound.{HasKinds}
use Rattle.iv_database.specs.Changes.{Change, change_at}
use Rattle.iv_database.specs.Database.{Database, HoldsKinds, IsDatabase, at, kinds_at}
use Rattle.iv_database.specs.Resolving.{Passes, TookIn, left_by}
use Rattle.iv_database.specs.Stands.{Stands}
use Rattle.iv_database.specs.Summed.{HasRoom}
use Rattle.iv_database.proofs.RowKinds.{holds-AllPass, HoldsKinds-Counts, HasKinds-Counts}

-- ---- lists behind the tables

abbrev pub lists_behind : Database → Lists
lists_behind d = λ t. list_behind (rows_of d.tables t)

pub Stands-lists_behind : (d : Database) → IsDatabase d → Stands (lists_behind d) d.tables
Stands-lists_behind d h = λ t. Counts-list_behind (rows_of d.tables t) (h.positive t)

-- ---- the rows of a change

not_below : (w : ℤ) (n : ℕ) → w ≡ pos n → pos 0 ≤ℤ w
not_below w n h = omega (arith, ints)

-- a row that a change has stands in the list before it or in the list after it
one_side : (X : Type 0) (v : ℤ) (a c : ℕ) → v ≢ pos 0 → v +ℤ pos a ≡ pos c → (a ≢ 0 → X) → (c ≢ 0 → X) → X
one_side X v zero zero some sum f g = absurd (some (omega (arith, ints)))
one_side X v zero (suc c) some sum f g = g (λ z. cc)
one_side X v (suc a) c some sum f g = f (λ z. cc)

module _ (d : Database) (n : ℕ) (es : List Entry) (changes : List Change) (stored : IsDatabase d) (p : Passes d n es changes) where
  module _ (T : Lists) (stands : Stands T d.tables) where
    kinds_before : (t : ℕ) → HasKinds (schema_of d.catalog t) (T t)
    kinds_before t = HasKinds-Counts (schema_of d.catalog t) (rows_of d.tables t) (T t) (stored.kinds t) (stands t)

    pub kinds_left : (t : ℕ) → HasKinds (schema_of d.catalog t) (left_by d es T t)
    kinds_left = HasKinds-after (at d T) n (write es) (record { relations = stored.numbered; guards = stored.guards }) p.frame kinds_before

    sum_left : (t : ℕ) (q : List Cell) → weight_of (change_at changes t) q +ℤ pos (copies q (T t)) ≡ pos (copies q (left_by d es T t))
    sum_left t q = ap (λ w. weight_of (change_at changes t) q +ℤ w) (sym (stands t q)) ∙ sym (weight_of-append (change_at changes t) (rows_of d.tables t) q) ∙ (p.leads T stands).lead t q

    kinds_of_change : (t : ℕ) (columns : List Column) → schema_of d.catalog t ≡ Some columns → AreOf (kinds_of columns) (change_at changes t)
    kinds_of_change t columns is q some =
        let fits = accepts (kinds_of columns) in
        one_side (fits q ≡ true) (weight_of (change_at changes t) q) (copies q (T t)) (copies q (left_by d es T t)) some (sum_left t q)
        (holds-AllPass fits (T t) q (subst (λ o. HasKinds o (T t)) is (kinds_before t)))
        (holds-AllPass fits (left_by d es T t) q (subst (λ o. HasKinds o (left_by d es T t)) is (kinds_left t)))

    -- a row of what is no table stands in neither list
    kinds_any : (t : ℕ) → AreOf (or_nothing (kinds_at d.catalog t)) (change_at changes t)
    kinds_any t = by (schema_of d.catalog t) refl
      where
        by : (o : Option (List Column)) → schema_of d.catalog t ≡ o → AreOf (or_nothing (option_map kinds_of o)) (change_at changes t)
        by None is = λ q some.
            let before : T t ≡ [] = subst (λ o. HasKinds o (T t)) is (kinds_before t) in
            let left : left_by d es T t ≡ [] = subst (λ o. HasKinds o (left_by d es T t)) is (kinds_left t) in
            one_side (accepts [] q ≡ true) (weight_of (change_at changes t) q) (copies q (T t)) (copies q (left_by d es T t)) some (sum_left t q)
            (λ n. absurd (n (ap (copies q) before)))
            (λ n. absurd (n (ap (copies q) left)))
        by (Some columns) is = kinds_of_change t columns is

    room_any : (t : ℕ) → HasRoom (change_at changes t) (rows_of d.tables t)
    room_any t = record {
      bag = λ q. not_below (weight_of (change_at changes t ++ rows_of d.tables t) q) (copies q (left_by d es T t)) ((p.leads T stands).lead t q);
      in_range = (p.keep t).in_range;
    }

  pub kinds_write : (t : ℕ) → AreOf (or_nothing (heads_of d.tables t)) (change_at changes t)
  kinds_write t = subst (λ o. AreOf (or_nothing o) (change_at changes t)) (sym (stored.tables t)) (kinds_any (lists_behind d) (Stands-lists_behind d stored) t)

  pub room_write : (t : ℕ) → HasRoom (change_at changes t) (rows_of d.tables t)
  room_write = room_any (lists_behind d) (Stands-lists_behind d stored)

  -- ---- the tables afterwards

  module _ (new : Database) (taken : TookIn d changes new) where
    pub stands_left : (T : Lists) → Stands T d.tables → Stands (left_by d es T) new.tables
    stands_left T s t q = taken.tables.sums t q ∙ (p.leads T s).lead t q

    pub kinds_taken : (t : ℕ) → HoldsKinds (schema_of d.catalog t) (rows_of new.tables t)
    kinds_taken t =
        let T = lists_behind d in
        let s = Stands-lists_behind d stored in
        HoldsKinds-Counts (schema_of d.catalog t) (rows_of new.tables t) (left_by d es T t) (taken.tables.zsets t) (kinds_left T s t) (stands_left T s t)

    pub taken_stored : IsDatabase new
    taken_stored = subst IsDatabase (sym taken.state) (record {
      roles = stored.roles;
      numbered = stored.numbered;
      relations = stored.relations;
      guards = stored.guards;
      tables = λ t. taken.tables.heads t ∙ stored.tables t;
      zsets = taken.tables.zsets;
      positive = λ t q. not_below (weight_of (rows_of new.tables t) q) (copies q (left_by d es (lists_behind d) t)) (stands_left (lists_behind d) (Stands-lists_behind d stored) t q);
      kinds = kinds_taken;
      limit = stored.limit;
      small = λ t.
          let k = rows_in-IsZSet (rows_of new.tables t) (taken.tables.zsets t) in
          let s = rows_in-SameZ (rows_of new.tables t) (change_at changes t ++ rows_of d.tables t) (taken.tables.sums t) in
          let f = (p.keep t).few in
          omega (arith, k, s, f);
    })
