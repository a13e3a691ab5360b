-- The rows of tables have the kinds of their columns, and are within the limits.
use Rattle.std.proofs.Common.{◌≡◌, ℕ, zero, suc, ◌+◌, Bool, true, false, cond, ◌&&◌, List, [], ◌∷◌, ◌++◌, Option, Some, None, ap, ◌∙◌, sym, refl, subst, arith}
use Rattle.std.proofs.lemmas.Bool.Decides.{nat_tests}
use Rattle.std.proofs.lemmas.List.Elements.{All-nil, All-cons, All-append, All-head, All-tail}
use Rattle.std.specs.Prelude.{find, is_some, not, nat_le, ◌==◌, unwrap_or, bytes_eq}
use Rattle.std.specs.List.{AllPass, list_all}
use Rattle.iv_rows.specs.Cell.{Cell}
use Rattle.iv_rows.specs.Columns.{Column, accepts, kinds_of}
use Rattle.iv_rows.specs.Order.{row_eq}
use Rattle.iv_zset.specs.Limits.{within}
use Rattle.iv_algebra.specs.Plans.{Lists}
use Rattle.iv_bind.specs.BoundTexts.{bound_query}
use Rattle.iv_bind.specs.Catalogs.{BoundQuery, Held, Table, View, named, numbered, schema_of, table_in}
use Rattle.iv_bind.specs.Catalogs as catalogs
use Rattle.iv_rows.specs.Options.{if_some}
use Rattle.iv_access.specs.Rights.{Name}
use Rattle.iv_machine.specs.Act.{Act, create_table, create_view, write, Op, insert, delete, update, Entry, no_session, unknown_relation, not_a_table, bad_row, limit}
use Rattle.iv_machine.specs.State.{State, Frame, actor, columns_at, is_open, is_within, next_rel, rel_of, table_columns}
use Rattle.iv_machine.specs.Refusing.{test, each_entry, entry_shape, rows_in, known_relation, table_alone, entries_present, all_within, first, frame_refusal, rows_refusal, tests_by}
use Rattle.iv_machine.specs.Changing.{times, without, changed_by, after_entry, written, with_held, view_held, after}
use Rattle.iv_machine.specs.Numbered.{IsNumbered}
use Rattle.iv_machine.specs.Sound.{HasKinds}
use Rattle.iv_machine.proofs.SubscriptionPlaces.{find_kept, find-by_number, some_of}
use Rattle.iv_machine.proofs.OpenSubscriptions.{or_else-None, test_not-None, and-both_true}

-- ---- an entry keeps what holds of each row

module _ (p : List Cell → Bool) where
  times_pass : (c : ℕ) (row : List Cell) → p row ≡ true → AllPass p (times c row)
  times_pass zero row h = All-nil (λ r. p r ≡ true)
  times_pass (suc c) row h = All-cons (λ r. p r ≡ true) row (times c row) h (times_pass c row h)

  without_pass : (c : ℕ) (row : List Cell) (rows : List (List Cell)) → AllPass p rows → AllPass p (without c row rows)
  without_pass c row [] h = All-nil (λ r. p r ≡ true)
  without_pass zero row (r ∷ rows) h = h
  without_pass (suc c) row (r ∷ rows) h = let t = All-tail (λ x. p x ≡ true) r rows h in
      by (row_eq row r) (without_pass c row rows t) (without_pass (suc c) row rows t)
    where
      by : (b : Bool) → AllPass p (without c row rows) → AllPass p (without (suc c) row rows) → AllPass p (cond b (without c row rows) (r ∷ without (suc c) row rows))
      by true gone kept = gone
      by false gone kept = All-cons (λ x. p x ≡ true) r (without (suc c) row rows) (All-head (λ x. p x ≡ true) r rows h) kept

  changed_pass : (op : Op) (c : ℕ) (rows : List (List Cell)) → list_all p (rows_in op) ≡ true → AllPass p rows → AllPass p (changed_by op c rows)
  changed_pass (insert new) c rows h a = All-append (λ r. p r ≡ true) rows (times c new) a (times_pass c new (and-both_true (p new) true h).0)
  changed_pass (delete old) c rows h a = without_pass c old rows a
  changed_pass (update old new) c rows h a =
      let b = (and-both_true (p new) true (and-both_true (p old) (p new && true) h).1).0 in
      All-append (λ r. p r ≡ true) (without c old rows) (times c new) (without_pass c old rows a) (times_pass c new b)

-- ---- the columns of a table, by name and by number

-- the table of a name has the columns of its number
same_columns : (f : Frame) (name : Name) → IsNumbered f → is_some (named f.catalog name) ≡ true → schema_of f.catalog (rel_of f.catalog name) ≡ table_columns f.catalog name
same_columns f name a h = some_of (named f.catalog name) h (schema_of f.catalog (rel_of f.catalog name) ≡ table_columns f.catalog name)
    (λ x k. ap (λ o. schema_of f.catalog (if_some o (next_rel f.catalog) (λ e. e.rel))) k
    ∙ ap (λ o. if_some o None (λ e. table_in e.held)) (find-by_number 0 f.catalog (λ e. bytes_eq name e.name) x a.relations k)
    ∙ sym (ap (λ o. if_some o None (λ e. table_in e.held)) k))

-- ---- a write

changed_kinds : (o : Option (List Column)) (op : Op) (c : ℕ) (rows : List (List Cell)) → is_some o ≡ true → list_all (accepts (kinds_of (unwrap_or o []))) (rows_in op) ≡ true → HasKinds o rows → HasKinds o (changed_by op c rows)
changed_kinds None op c rows s h k = cc
changed_kinds (Some columns) op c rows s h k = changed_pass (accepts (kinds_of columns)) op c rows h k

entry_kinds : (f : Frame) (n : ℕ) (e : Entry) (T : Lists) → IsNumbered f → entry_shape f n e ≡ None → ((t : ℕ) → HasKinds (schema_of f.catalog t) (T t)) → (t : ℕ) → HasKinds (schema_of f.catalog t) (after_entry f.catalog e T t)
entry_kinds f n e T a h k t = by (rel_of f.catalog e.rel == t) refl
  where
    by : (b : Bool) → (rel_of f.catalog e.rel == t) ≡ b → HasKinds (schema_of f.catalog t) (cond b (changed_by e.op e.copies (T t)) (T t))
    by true same =
        let at : rel_of f.catalog e.rel ≡ t = grind (arith, nat_tests) in
        let x = or_else-None (known_relation f e.rel) _ h in
        let y = or_else-None (table_alone f e.rel) _ x.1 in
        let z = or_else-None (test (not (list_all (accepts (kinds_of (columns_at f.catalog e.rel))) (rows_in e.op))) (bad_row n)) None y.1 in
        let known = test_not-None (is_some (named f.catalog e.rel)) unknown_relation x.0 in
        let columns : schema_of f.catalog t ≡ table_columns f.catalog e.rel = sym (ap (schema_of f.catalog) at) ∙ same_columns f e.rel a known in
        subst (λ o. HasKinds o (changed_by e.op e.copies (T t))) (sym columns)
        (changed_kinds (table_columns f.catalog e.rel) e.op e.copies (T t)
        (test_not-None (is_some (table_columns f.catalog e.rel)) not_a_table y.0)
        (test_not-None (list_all (accepts (kinds_of (columns_at f.catalog e.rel))) (rows_in e.op)) (bad_row n) z.0)
        (subst (λ o. HasKinds o (T t)) columns (k t)))
    by false other = k t

written_kinds : (f : Frame) (n : ℕ) (es : List Entry) (T : Lists) → IsNumbered f → each_entry (entry_shape f) n es ≡ None → ((t : ℕ) → HasKinds (schema_of f.catalog t) (T t)) → (t : ℕ) → HasKinds (schema_of f.catalog t) (written f.catalog es T t)
written_kinds f n [] T a h k = k
written_kinds f n (e ∷ es) T a h k =
    let x = or_else-None (entry_shape f n e) (each_entry (entry_shape f) (n + 1) es) h in
    written_kinds f (n + 1) es (after_entry f.catalog e T) a x.1 (entry_kinds f n e T a x.0 k)

-- ---- one relation more

no_rows : (o : Option (List Column)) → HasKinds o []
no_rows None = refl
no_rows (Some columns) = All-nil (λ r. accepts (kinds_of columns) r ≡ true)

more_kinds : (catalog : List catalogs.CatalogEntry) (e : catalogs.CatalogEntry) (T : Lists) → ((t : ℕ) → HasKinds (schema_of catalog t) (T t)) → (t : ℕ) → HasKinds (schema_of (catalog ++ e ∷ []) t) (T t)
more_kinds catalog e T k t = by (numbered catalog t) refl
  where
    by : (o : Option catalogs.CatalogEntry) → numbered catalog t ≡ o → HasKinds (schema_of (catalog ++ e ∷ []) t) (T t)
    by None h = let empty : T t ≡ [] = subst (λ o. HasKinds (if_some o None (λ x. table_in x.held)) (T t)) h (k t) in
        subst (HasKinds (schema_of (catalog ++ e ∷ []) t)) (sym empty) (no_rows (schema_of (catalog ++ e ∷ []) t))
    by (Some x) h = subst (λ o. HasKinds (if_some o None (λ y. table_in y.held)) (T t)) (sym (find_kept (λ (y : catalogs.CatalogEntry). t == y.rel) catalog (e ∷ []) (ap is_some h))) (k t)

held_kinds : (catalog : List catalogs.CatalogEntry) (name : Name) (o : Option Held) (T : Lists) → ((t : ℕ) → HasKinds (schema_of catalog t) (T t)) → (t : ℕ) → HasKinds (schema_of (with_held name o catalog) t) (T t)
held_kinds catalog name None T k = k
held_kinds catalog name (Some held) T k = more_kinds catalog (record { name = name; rel = next_rel catalog; held = held }) T k

pub HasKinds-after : (s : State) (n : ℕ) (act : Act) → IsNumbered s.frame → frame_refusal s.frame n act ≡ None → ((t : ℕ) → HasKinds (schema_of s.frame.catalog t) (s.rows t)) → (t : ℕ) → HasKinds (schema_of (after s n act).frame.catalog t) ((after s n act).rows t)
HasKinds-after s n (create_table name owner columns) a r k = held_kinds s.frame.catalog name (Some (Table columns)) s.rows k
HasKinds-after s n (create_view name owner query) a r k = held_kinds s.frame.catalog name (view_held (bound_query s.frame.catalog query)) s.rows k
HasKinds-after s n (write es) a r k =
    let x = or_else-None (test (not (is_open s.frame n)) no_session) (first (tests_by s.frame n (actor s.frame n) (write es))) r in
    let y = or_else-None (each_entry (entry_shape s.frame) 1 es) _ x.1 in
    written_kinds s.frame 1 es s.rows a y.0 k
HasKinds-after s n _ a r k = k

-- ---- the limits

pub within-none : (cap : ℕ) → within cap [] ≡ true
within-none cap = let b : nat_le 0 cap ≡ true = grind (arith, nat_tests) in ap (λ x. x && true) b

found_passes : {X : Type 0} (p q : X → Bool) (xs : List X) (x : X) → list_all q xs ≡ true → find p xs ≡ Some x → (p x ≡ true) × (q x ≡ true)
found_passes p q [] x h k = cc
found_passes p q (y ∷ ys) x h k = let a = and-both_true (q y) (list_all q ys) h in by (p y) refl k a.0 (found_passes p q ys x a.1)
  where
    by : (b : Bool) → p y ≡ b → cond b (Some y) (find p ys) ≡ Some x → q y ≡ true → (find p ys ≡ Some x → (p x ≡ true) × (q x ≡ true)) → (p x ≡ true) × (q x ≡ true)
    by true e j a go = let same : y ≡ x = cc in (ap p (sym same) ∙ e, ap q (sym same) ∙ a)
    by false e j a go = go j

each_within : (cap : ℕ) (catalog : List catalogs.CatalogEntry) (T : Lists) → list_all (λ e. within cap (T e.rel)) catalog ≡ true → ((t : ℕ) → HasKinds (schema_of catalog t) (T t)) → (t : ℕ) → within cap (T t) ≡ true
each_within cap catalog T w k t = by (numbered catalog t) refl
  where
    by : (o : Option catalogs.CatalogEntry) → numbered catalog t ≡ o → within cap (T t) ≡ true
    by None h = let empty : T t ≡ [] = subst (λ o. HasKinds (if_some o None (λ x. table_in x.held)) (T t)) h (k t) in ap (within cap) empty ∙ within-none cap
    by (Some x) h =
        let f = found_passes (λ (y : catalogs.CatalogEntry). t == y.rel) (λ (y : catalogs.CatalogEntry). within cap (T y.rel)) catalog x w h in
        let b = f.0 in
        let at : t ≡ x.rel = grind (arith, nat_tests) in
        ap (λ i. within cap (T i)) at ∙ f.1

pub within-after : (s : State) (n : ℕ) (act : Act) → rows_refusal s n act ≡ None → ((t : ℕ) → HasKinds (schema_of (after s n act).frame.catalog t) ((after s n act).rows t)) → ((t : ℕ) → within s.frame.cap (s.rows t) ≡ true) → (t : ℕ) → within s.frame.cap ((after s n act).rows t) ≡ true
within-after s n (write es) r k w =
    let x = or_else-None (entries_present s.frame.catalog 1 es s.rows) _ r in
    let y = or_else-None (test (not (all_within (after s n (write es)))) limit) None x.1 in
    let z = test_not-None (all_within (after s n (write es))) limit y.0 in
    each_within s.frame.cap s.frame.catalog (after s n (write es)).rows (and-both_true _ (list_all (is_within (after s n (write es))) s.frame.subscriptions) z).0 k
within-after s n _ r k w = w
