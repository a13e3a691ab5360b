-- The tables that have rows are those of the catalog, also where there is one relation more.
use Rattle.std.proofs.Common.{◌≡◌, ℕ, ◌+◌, ◌<◌, ◌≤◌, Bool, true, false, cond, List, [], ◌∷◌, ◌++◌, length, Option, None, Some, refl, sym, ap, subst, ◌∙◌, arith}
use Rattle.std.proofs.lemmas.Bool.Decides.{nat_tests}
use Rattle.std.specs.Prelude.{◌==◌, find, is_some, nat_lt, option_map}
use Rattle.iv_rows.specs.Columns.{Column, kinds_of}
use Rattle.iv_rows.specs.declared.value.Kind.{Kind}
use Rattle.iv_algebra.specs.Contents.{heads_of, rows_of, rows_or_none, table_of}
use Rattle.iv_algebra.specs.declared.tables.Table.{Table}
use Rattle.iv_bind.specs.Catalogs as catalogs
use Rattle.iv_bind.specs.Catalogs.{CatalogEntry, Held, numbered, schema_of, table_in}
use Rattle.iv_rows.specs.Options.{if_some}
use Rattle.iv_access.specs.Rights.{Name}
use Rattle.iv_machine.specs.Numbered.{AreNumbered}
use Rattle.iv_database.specs.Database.{HoldsKinds, IsDatabase, Database, kinds_at}
use Rattle.iv_database.specs.Next.{with_table}
use Rattle.iv_database.specs.Stands.{HasTable}
use Rattle.iv_database.proofs.Tables.{numbered-None}

-- ---- one more in a list

other_more : {X : Type 0} (p : X → Bool) (xs : List X) (x : X) → p x ≡ false → find p (xs ++ x ∷ []) ≡ find p xs
other_more p [] x h = ap (λ b. cond b (Some x) None) h
other_more p (y ∷ xs) x h = ap (λ o. cond (p y) (Some y) o) (other_more p xs x h)

this_more : {X : Type 0} (p : X → Bool) (xs : List X) (x : X) → find p xs ≡ None → p x ≡ true → find p (xs ++ x ∷ []) ≡ Some x
this_more p [] x n h = ap (λ b. cond b (Some x) None) h
this_more p (y ∷ xs) x n h = by (p y) n (this_more p xs x)
  where
    by : (b : Bool) → cond b (Some y) (find p xs) ≡ None → (find p xs ≡ None → p x ≡ true → find p (xs ++ x ∷ []) ≡ Some x) → cond b (Some y) (find p (xs ++ x ∷ [])) ≡ Some x
    by true k go = cc
    by false k go = go k h

-- ---- a new table has no row

rows_more : (tables : List Table) (x : Table) (t : ℕ) → x.rows ≡ [] → rows_of (tables ++ x ∷ []) t ≡ rows_of tables t
rows_more [] x t h = by (t == x.rel.0)
  where
    by : (b : Bool) → rows_or_none (cond b (Some x) None) ≡ []
    by true = h
    by false = refl
rows_more (y ∷ tables) x t h = by (t == y.rel.0) (rows_more tables x t h)
  where
    by : (b : Bool) → rows_of (tables ++ x ∷ []) t ≡ rows_of tables t → rows_or_none (cond b (Some y) (table_of (tables ++ x ∷ []) t)) ≡ rows_or_none (cond b (Some y) (table_of tables t))
    by true go = refl
    by false go = go

abbrev new_table : List Column → ℕ → Table
new_table columns rel = record { rel = record { 0 = rel }; schema = columns; rows = [] }

pub rows_of-with_table : (held : Held) (rel : ℕ) (tables : List Table) (t : ℕ) → rows_of (with_table held rel tables) t ≡ rows_of tables t
rows_of-with_table (catalogs.Table columns) rel tables t = rows_more tables (new_table columns rel) t refl
rows_of-with_table (catalogs.View a) rel tables t = refl

-- ---- kinds

abbrev kinds_in : Option CatalogEntry → Option (List Kind)
kinds_in o = option_map kinds_of (if_some o None (λ e. table_in e.held))

abbrev kinds_held : Option Table → Option (List Kind)
kinds_held o = option_map (λ t. kinds_of t.schema) o

no_table : (o : Option Table) → kinds_held o ≡ None → o ≡ None
no_table None h = refl
no_table (Some t) h = cc

module _ (catalog : List CatalogEntry) (tables : List Table) (u : AreNumbered 0 catalog) (h : (t : ℕ) → heads_of tables t ≡ kinds_at catalog t) (name : Name) where
  abbrev entry : Held → CatalogEntry
  entry held = record { name = name; rel = length catalog; held = held }

  fresh : (t : ℕ) → (t == length catalog) ≡ true → numbered catalog t ≡ None
  fresh t k = numbered-None 0 catalog t u (far t (length catalog) k)
    where
      far : (m n : ℕ) → (m == n) ≡ true → 0 + n ≤ m
      far m n k = grind (arith, nat_tests)

  pub heads_with : (held : Held) (t : ℕ) → heads_of (with_table held (length catalog) tables) t ≡ kinds_at (catalog ++ entry held ∷ []) t
  heads_with held t = by held (t == length catalog) refl
    where
      entry_here : (held : Held) → (t == length catalog) ≡ true → kinds_at (catalog ++ entry held ∷ []) t ≡ kinds_in (Some (entry held))
      entry_here held k = ap kinds_in (this_more (λ (x : CatalogEntry). t == x.rel) catalog (entry held) (fresh t k) k)

      entry_else : (held : Held) → (t == length catalog) ≡ false → kinds_at (catalog ++ entry held ∷ []) t ≡ kinds_at catalog t
      entry_else held k = ap kinds_in (other_more (λ (x : CatalogEntry). t == x.rel) catalog (entry held) k)

      by : (held : Held) (b : Bool) → (t == length catalog) ≡ b → heads_of (with_table held (length catalog) tables) t ≡ kinds_at (catalog ++ entry held ∷ []) t
      by (catalogs.Table columns) true k =
          ap kinds_held (this_more (λ (x : Table). t == x.rel.0) tables (new_table columns (length catalog)) (no_table (table_of tables t) (h t ∙ ap kinds_in (fresh t k))) k)
          ∙ sym (entry_here (catalogs.Table columns) k)
      by (catalogs.Table columns) false k = ap kinds_held (other_more (λ (x : Table). t == x.rel.0) tables (new_table columns (length catalog)) k) ∙ h t ∙ sym (entry_else (catalogs.Table columns) k)
      by (catalogs.View a) true k = h t ∙ ap kinds_in (fresh t k) ∙ sym (entry_here (catalogs.View a) k)
      by (catalogs.View a) false k = h t ∙ sym (entry_else (catalogs.View a) k)

-- ---- what is stored

some_kinds : (o : Option Table) → is_some (kinds_held o) ≡ is_some o
some_kinds None = refl
some_kinds (Some t) = refl

pub some_columns : (o : Option (List Column)) → is_some (option_map kinds_of o) ≡ is_some o
some_columns None = refl
some_columns (Some columns) = refl

module _ (e : Database) (h : IsDatabase e) (t : ℕ) where
  as_known : is_some (table_of e.tables t) ≡ is_some (schema_of e.catalog t)
  as_known = sym (some_kinds (table_of e.tables t)) ∙ ap (λ o. is_some o) (h.tables t) ∙ some_columns (schema_of e.catalog t)

  pub has_table : is_some (schema_of e.catalog t) ≡ true → HasTable e.tables t
  has_table s = as_known ∙ s

  no_columns : length e.catalog ≤ t → schema_of e.catalog t ≡ None
  no_columns l = ap (λ o. if_some o None (λ x. table_in x.held)) (numbered-None 0 e.catalog t h.numbered (omega (arith, l)))

  pub table_below : HasTable e.tables t → t < length e.catalog
  table_below has = by (nat_lt t (length e.catalog)) refl
    where
      by : (b : Bool) → nat_lt t (length e.catalog) ≡ b → t < length e.catalog
      by true k = grind (arith, nat_tests)
      by false k =
          let far : length e.catalog ≤ t = grind (arith, nat_tests) in
          let no : false ≡ true = sym (ap (λ o. is_some o) (no_columns far)) ∙ sym as_known ∙ has in cc

  pub none_beyond : length e.catalog ≤ t → rows_of e.tables t ≡ []
  none_beyond l = subst (λ o. HoldsKinds o (rows_of e.tables t)) (no_columns l) (h.kinds t)

  pub free_table : numbered e.catalog t ≡ None → table_of e.tables t ≡ None
  free_table n = no_table (table_of e.tables t) (h.tables t ∙ ap kinds_in n)
