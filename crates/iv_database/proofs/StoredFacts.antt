-- What every database has is kept by requests that write no row.
use Rattle.std.proofs.Common.{◌≡◌, ℕ, ◌+◌, ◌<◌, ◌≤◌, false, not, List, [], ◌∷◌, ◌++◌, length, length-append, None, refl, sym, ap, subst, ◌∙◌, arith}
use Rattle.std.specs.Prelude.{Result, Ok, Err, option_map}
use Rattle.std.specs.List.{AllByRecursion, IsDistinct}
use Rattle.std.proofs.lemmas.Int.{ints}
use Rattle.std.proofs.lemmas.List.{map-append}
use Rattle.iv_rows.specs.RowLimit.{IsRowLimit}
use Rattle.iv_zset.specs.Weights.{Weighed, IsBag, IsZSet}
use Rattle.iv_rows.specs.Columns.{Column, kinds_of}
use Rattle.iv_algebra.specs.Contents.{rows_of}
use Rattle.iv_bind.specs.BoundTexts.{FaultAt, TextFault, bound_query}
use Rattle.iv_bind.specs.Catalogs.{BoundQuery, CatalogEntry, Held, Table, View, schema_of, table_in}
use Rattle.iv_access.specs.Access.{Relation, role_number}
use Rattle.iv_access.specs.Rights.{Guard, Name, Rights}
use Rattle.iv_machine.specs.State.{Session, actor, is_open}
use Rattle.iv_machine.specs.Act.{begin, create_role, create_table, create_view, no_session}
use Rattle.iv_machine.specs.Changing.{view_held, with_held}
use Rattle.iv_machine.specs.Refusing.{administrator, bad_text, first, frame_refusal, free_relation, known_role, test, tests_by}
use Rattle.iv_machine.proofs.SubscriptionPlaces.{HasRole-after_frame}
use Rattle.iv_machine.proofs.OpenSubscriptions.{or_else-None}
use Rattle.iv_database.specs.Database.{Database, HoldsKinds, IsDatabase, at_start, frame_of, relation_in, with_rights}
use Rattle.iv_database.specs.Next.{database_after, with_relation_of}
use Rattle.iv_database.proofs.TablesOfCatalog.{heads_with, rows_of-with_table}
use Rattle.iv_database.proofs.RowKinds.{HoldsKinds-push}
use Rattle.iv_database.proofs.Tables.{AreNumbered-push}

-- ---- lists

longer : {X Y : Type 0} (xs : List X) (ys : List Y) (x : X) (y : Y) → length xs ≡ length ys → length (xs ++ x ∷ []) ≡ length (ys ++ y ∷ [])
longer xs ys x y h = length-append xs (x ∷ []) ∙ ap (λ k. k + 1) h ∙ sym (length-append ys (y ∷ []))

from_zero : (n : ℕ) → n ≡ 0 + n
from_zero n = omega arith

-- ---- a new relation, which has no row

module _ (d : Database) (h : IsDatabase d) (name owner : Name) (held : Held) where
  abbrev x : CatalogEntry
  x = record { name = name; rel = length d.catalog; held = held }

  abbrev g : Guard
  g = record { owner = role_number d.known.rights owner; enabled = false; forced = false; policies = [] }

  pub relation_stored : IsDatabase (with_relation_of name owner held d)
  relation_stored = record {
    roles = h.roles;
    numbered = AreNumbered-push 0 d.catalog x h.numbered (from_zero (length d.catalog));
    relations = ap (λ (rs : List Relation). rs ++ record { name = name; kinds = option_map kinds_of (table_in held) } ∷ []) h.relations ∙ sym (map-append relation_in d.catalog (x ∷ []));
    guards = longer d.known.rights.guards d.catalog g x h.guards;
    tables = heads_with d.catalog d.tables h.numbered h.tables name held;
    zsets = λ t. subst IsZSet (sym (rows_of-with_table held (length d.catalog) d.tables t)) (h.zsets t);
    positive = λ t. subst IsBag (sym (rows_of-with_table held (length d.catalog) d.tables t)) (h.positive t);
    kinds = λ t. subst (HoldsKinds (schema_of (d.catalog ++ x ∷ []) t)) (sym (rows_of-with_table held (length d.catalog) d.tables t)) (HoldsKinds-push d.catalog x t (rows_of d.tables t) (h.kinds t));
    limit = h.limit;
    small = λ t. subst (λ (z : Weighed). length z ≤ d.cap) (sym (rows_of-with_table held (length d.catalog) d.tables t)) (h.small t);
  }

-- the text of a view that passes
text_bound : (r : Result BoundQuery TextFault) → bad_text r ≡ None → (a : BoundQuery) × (r ≡ Ok a)
text_bound (Ok a) h = (a, refl)
text_bound (Err (FaultAt place why)) h = cc

-- ---- other rights

pub IsDatabase-with_rights : (d : Database) (q : Rights) → length q.guards ≡ length d.catalog → length q.roles ≡ length d.known.rights.roles → IsDatabase d → IsDatabase (with_rights q d)
IsDatabase-with_rights d q guards roles h = record {
  roles = subst (λ n. AllByRecursion (λ s. s.role < n) d.sessions) (sym roles) h.roles;
  numbered = h.numbered;
  relations = h.relations;
  guards = guards;
  tables = h.tables;
  zsets = h.zsets;
  positive = h.positive;
  kinds = h.kinds;
  limit = h.limit;
  small = h.small;
}

-- ---- other sessions and roles

module _ (d : Database) (h : IsDatabase d) where
  pub sessions_stored : (ss : List Session) → AllByRecursion (λ s. s.role < length d.known.rights.roles) ss → IsDatabase (record d { sessions = ss })
  sessions_stored ss roles = record {
    roles = roles;
    numbered = h.numbered;
    relations = h.relations;
    guards = h.guards;
    tables = h.tables;
    zsets = h.zsets;
    positive = h.positive;
    kinds = h.kinds;
    limit = h.limit;
    small = h.small;
  }

  pub begin_stored : (n : ℕ) (role : Name) → frame_refusal (frame_of d) n (begin role) ≡ None → IsDatabase (database_after d n (begin role))
  begin_stored n role passed = sessions_stored _ (HasRole-after_frame (frame_of d) n (begin role) passed h.roles)

  pub role_stored : (n : ℕ) (name : Name) → frame_refusal (frame_of d) n (create_role name) ≡ None → IsDatabase (database_after d n (create_role name))
  role_stored n name passed = record {
    roles = HasRole-after_frame (frame_of d) n (create_role name) passed h.roles;
    numbered = h.numbered;
    relations = h.relations;
    guards = h.guards;
    tables = h.tables;
    zsets = h.zsets;
    positive = h.positive;
    kinds = h.kinds;
    limit = h.limit;
    small = h.small;
  }

  pub table_stored : (n : ℕ) (name owner : Name) (columns : List Column) → IsDatabase (database_after d n (create_table name owner columns))
  table_stored n name owner columns = relation_stored d h name owner (Table columns)

  module _ (n : ℕ) (name owner query : Name) (passed : frame_refusal (frame_of d) n (create_view name owner query) ≡ None) where
    abbrev o : Result BoundQuery TextFault
    o = bound_query d.catalog query

    -- its text is bound
    view_bound : (a : BoundQuery) × (o ≡ Ok a)
    view_bound =
        let f = frame_of d in
        let s = or_else-None (test (not (is_open f n)) no_session) (first (tests_by f n (actor f n) (create_view name owner query))) passed in
        let a = or_else-None (administrator (actor f n)) _ s.1 in
        let b = or_else-None (known_role f owner) _ a.1 in
        let c = or_else-None (free_relation f name) _ b.1 in
        text_bound o (or_else-None (bad_text o) _ c.1).0

    pub view_is : (a : BoundQuery) × (database_after d n (create_view name owner query) ≡ with_relation_of name owner (View a) d)
    view_is = (view_bound.0, ap (λ (r : Result BoundQuery TextFault). record (database_after d n (create_view name owner query)) { catalog = with_held name (view_held r) d.catalog }) view_bound.1)

-- ---- the start

pub empty_zset : IsZSet []
unfolding IsDistinct
empty_zset = record { distinct = tt; weights = λ q. tt }

pub IsDatabase-at_start : (cap : ℕ) → IsRowLimit cap → IsDatabase (at_start cap)
IsDatabase-at_start cap limit = record {
  roles = tt;
  numbered = tt;
  relations = refl;
  guards = refl;
  tables = λ t. refl;
  zsets = λ t. empty_zset;
  positive = λ t q. omega (arith, ints);
  kinds = λ t. refl;
  limit = limit;
  small = λ t. omega arith;
}
