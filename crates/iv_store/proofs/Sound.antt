-- What every stored state has is kept by requests that show nothing.
use Rattle.std.proofs.Common.{◌≡◌, ℕ, ◌<◌, ◌≤◌, Bool, true, false, cond, ◌&&◌, ◌||◌, List, [], ◌∷◌, ◌++◌, length, length-append, Option, None, Some, refl, sym, ap, subst, ◌∙◌, arith}
use Rattle.std.specs.Prelude.{◌==◌, is_some, option_map, position, unwrap_or}
use Rattle.std.specs.List.{AllByRecursion, list_any}
use Rattle.iv_rows.specs.RowLimit.{IsRowLimit}
use Rattle.iv_zset.specs.Weights.{weight_of}
use Rattle.iv_rows.specs.Columns.{Column, kinds_of}
use Rattle.iv_algebra.specs.Plans.{Lists}
use Rattle.iv_algebra.specs.Shapes.{Scan}
use Rattle.iv_bind.specs.Catalogs.{BoundQuery, CatalogEntry, Held, Table, View, plan_of, reached_by, table_in}
use Rattle.iv_rows.specs.Options.{if_some}
use Rattle.iv_access.specs.Laws.{ReachesAlike}
use Rattle.iv_access.specs.declared.privilege.Privilege.{Privilege}
use Rattle.iv_access.specs.declared.privilege.Privilege.TheVariants.{Select}
use Rattle.iv_access.specs.Access.{access_at_start, role_number, grantee_of}
use Rattle.iv_access.specs.Policies.{allowed, may_see}
use Rattle.iv_access.specs.Rights.{Grant, Grantee, Role, Guard, Name, Rights}
use Rattle.iv_roles.specs.Roles.{is_admin}
use Rattle.iv_access.specs.Privileges.{has, is_for, privilege_eq, role_name}
use Rattle.iv_access.specs.Changing.{grant_eq, granted, for_each, all_privileges}
use Rattle.iv_circuit.specs.Circuits.{Running}
use Rattle.iv_machine.specs.State.{Session, Subscription, actor, plan_at, rel_of, session_of}
use Rattle.iv_machine.specs.Act.{begin, create_role, create_table, create_view, grant}
use Rattle.iv_machine.specs.Refusing.{frame_refusal, test}
use Rattle.iv_store.specs.Store.{database_of, with_database, IsCircuitFor, IsOpen, IsRoleCircuit, IsSoundStore, IsWithin, Store, frame_of, is_read, may_read, place_of, shown_rows}
use Rattle.iv_readers.specs.Readers.{RoleCircuit, is_for as is_circuit_for}
use Rattle.iv_store.specs.Next.{kept_after}
use Rattle.iv_database.specs.Next as database
use Rattle.iv_database.specs.Next.{database_after}
use Rattle.iv_database.proofs.StoredFacts.{begin_stored, relation_stored, IsDatabase-with_rights, role_stored, IsDatabase-at_start, view_is}
use Rattle.iv_database.specs.Stands.{Stands}
use Rattle.iv_database.proofs.TablesOfCatalog.{none_beyond, rows_of-with_table}
use Rattle.iv_store.proofs.VisibleRows.{is_for-ReachesAlike, filter-ReachesAlike, may_see-ReachesAlike}
use Rattle.iv_database.proofs.Tables.{numbered-is_some}
use Rattle.iv_store.proofs.Unread.{read_has, list_any-session_of}
use Rattle.iv_store.proofs.UnmovedSubscriptions.{IsUnmoved, IsUnmoved-same_session, allowed-guard_pushed, may_see-guard_pushed, still_circuit, numbered-with_held, still_read, still_shown, slice_get-push, still_within}
use Rattle.iv_readers.proofs.Lists.{AllByRecursion-map, AllByRecursion-zip}

-- ---- more rights

any_same : (r q : Rights) (role : ℕ) → ReachesAlike q r.members role → (p : Privilege) (rel : ℕ) (gs : List Grant)
    → list_any (λ g. rel == g.rel && (privilege_eq p g.privilege && is_for r role g.grantee)) gs ≡ list_any (λ g. rel == g.rel && (privilege_eq p g.privilege && is_for q role g.grantee)) gs
any_same r q role reach p rel [] = refl
any_same r q role reach p rel (g ∷ gs) = λ i. (rel == g.rel && (privilege_eq p g.privilege && is_for-ReachesAlike r q role reach g.grantee i)) || any_same r q role reach p rel gs i

pub has-ReachesAlike : (r q : Rights) (role : ℕ) → ReachesAlike q r.members role → (p : Privilege) (rel : ℕ) → r.grants ≡ q.grants
    → has r role p rel ≡ has q role p rel
has-ReachesAlike r q role reach p rel h =
    ap (λ gs. is_admin role || list_any (λ g. rel == g.rel && (privilege_eq p g.privilege && is_for r role g.grantee)) gs) h
    ∙ ap (λ b. is_admin role || b) (any_same r q role reach p rel q.grants)

or_more : (a b c : Bool) → (b ≡ true → c ≡ true) → (a || b) ≡ true → (a || c) ≡ true
or_more true b c f h = refl
or_more false b c f h = f h

any_push : (test : Grant → Bool) (gs : List Grant) (g : Grant) → list_any test gs ≡ true → list_any test (gs ++ g ∷ []) ≡ true
any_push test [] g h = cc
any_push test (x ∷ gs) g h = or_more (test x) (list_any test gs) (list_any test (gs ++ g ∷ [])) (any_push test gs g) h

granted_more : (test : Grant → Bool) (g : Grant) (gs : List Grant) → list_any test gs ≡ true → list_any test (granted g gs) ≡ true
granted_more test g gs h = by (list_any (grant_eq g) gs)
  where
    by : (b : Bool) → list_any test (cond b gs (gs ++ g ∷ [])) ≡ true
    by true = h
    by false = any_push test gs g h

all_granted_more : (test : Grant → Bool) (rel : ℕ) (ps : List Privilege) (to : Grantee) (gs : List Grant) → list_any test gs ≡ true → list_any test (for_each granted rel ps to gs) ≡ true
all_granted_more test rel [] to gs h = h
all_granted_more test rel (p ∷ ps) to gs h = all_granted_more test rel ps to (granted (record { grantee = to; privilege = p; rel = rel }) gs) (granted_more test (record { grantee = to; privilege = p; rel = rel }) gs h)

-- who has a privilege keeps it where others are granted
pub has_more : (r q : Rights) (role : ℕ) → ReachesAlike q r.members role → (p : Privilege) (on rel : ℕ) (ps : List Privilege) (to : Grantee) → q.grants ≡ for_each granted rel ps to r.grants → has r role p on ≡ true → has q role p on ≡ true
has_more r q role reach p on rel ps to e h = or_more (is_admin role)
    (list_any (λ g. on == g.rel && (privilege_eq p g.privilege && is_for r role g.grantee)) r.grants)
    (list_any (λ g. on == g.rel && (privilege_eq p g.privilege && is_for q role g.grantee)) q.grants)
    (λ k. ap (list_any (λ g. on == g.rel && (privilege_eq p g.privilege && is_for q role g.grantee))) e
    ∙ sym (any_same r q role reach p on (for_each granted rel ps to r.grants))
    ∙ all_granted_more (λ g. on == g.rel && (privilege_eq p g.privilege && is_for r role g.grantee)) rel ps to r.grants k) h

-- ---- sessions

open_same : (ss : List Session) (x : Session) (n : ℕ) → is_some (session_of ss n) ≡ true → session_of (ss ++ x ∷ []) n ≡ session_of ss n
open_same [] x n h = cc
open_same (s ∷ ss) x n h = by (n == s.number) h (open_same ss x n)
  where
    by : (b : Bool) → is_some (cond b (Some s) (session_of ss n)) ≡ true → (is_some (session_of ss n) ≡ true → session_of (ss ++ x ∷ []) n ≡ session_of ss n) → cond b (Some s) (session_of (ss ++ x ∷ []) n) ≡ cond b (Some s) (session_of ss n)
    by true k go = refl
    by false k go = go k

-- the role of a session that is open
some_role : (o : Option Session) (a b : ℕ) → is_some o ≡ true → unwrap_or (option_map (λ e. e.role) o) a ≡ unwrap_or (option_map (λ e. e.role) o) b
some_role None a b h = cc
some_role (Some s) a b h = refl

-- the role of a session that is open is there
role_below : (ss : List Session) (n k : ℕ) → AllByRecursion (λ s. s.role < k) ss → is_some (session_of ss n) ≡ true → unwrap_or (option_map (λ e. e.role) (session_of ss n)) k < k
role_below [] n k a h = cc
role_below (s ∷ ss) n k a h = by (n == s.number) h (role_below ss n k a.1)
  where
    by : (b : Bool) → is_some (cond b (Some s) (session_of ss n)) ≡ true → (is_some (session_of ss n) ≡ true → unwrap_or (option_map (λ e. e.role) (session_of ss n)) k < k) → unwrap_or (option_map (λ e. e.role) (cond b (Some s) (session_of ss n))) k < k
    by true p go = a.0
    by false p go = go p

-- ---- subscriptions that are unmoved

module _ (e d : Store) (es : List Subscription) (u : AllByRecursion (IsUnmoved e d) es) where
  pub all_read : AllByRecursion (λ s. may_read e s ≡ true) es → AllByRecursion (λ s. may_read d s ≡ true) es
  all_read a = AllByRecursion-zip (IsUnmoved e d) (λ s. may_read e s ≡ true) (λ s. may_read d s ≡ true) es (λ s v r. still_read e d s v r) u a

  pub all_within : ((T : Lists) → Stands T d.tables → Stands T e.tables) → AllByRecursion (IsWithin e) es → AllByRecursion (IsWithin d) es
  all_within before a =
      AllByRecursion-zip (IsUnmoved e d) (IsWithin e) (IsWithin d) es (λ s v w T k. still_within e d s v T (before T k) ∙ w T (before T k)) u a

  pub all_there : d.circuits ≡ e.circuits → AllByRecursion (λ s. is_some (place_of e s) ≡ true) es → AllByRecursion (λ s. is_some (place_of d s) ≡ true) es
  all_there same a = AllByRecursion-zip (IsUnmoved e d) (λ s. is_some (place_of e s) ≡ true) (λ s. is_some (place_of d s) ≡ true) es
      (λ s v h. (λ i. is_some (position (is_circuit_for (v.acts i) s.rel) (same i))) ∙ h) u a

  pub all_shown : (T : Lists) → Stands T e.tables → AllByRecursion (λ s. shown_rows d T s ≡ shown_rows e T s) es
  all_shown T k = AllByRecursion-map (IsUnmoved e d) (λ s. shown_rows d T s ≡ shown_rows e T s) es (λ s v. still_shown e d s v T k) u

-- ---- circuits that subscriptions read which are unmoved

module _ (e d : Store) (back : (T : Lists) → Stands T d.tables → Stands T e.tables) (u : AllByRecursion (IsUnmoved e d) d.subscriptions) where
  -- what is there of the role and the relation in e is there in d
  abbrev Stays : (role rel : ℕ) → Type 0
  Stays role rel = (c : Running) → rel < length e.catalog → IsCircuitFor e role (plan_at e.catalog rel) c → (rel < length d.catalog) × IsCircuitFor d role (plan_at d.catalog rel) c

  one_stays : (s : Subscription) → IsUnmoved e d s → Stays (actor (frame_of d) s.session) s.rel
  one_stays s v c l i = (
    let g = v.grows in omega (arith, l, g),
    still_circuit e d s v back c (subst (λ role. IsCircuitFor e role (plan_at e.catalog s.rel) c) v.acts i),
  )

  each_stays : AllByRecursion (λ s. Stays (actor (frame_of d) s.session) s.rel) d.subscriptions
  each_stays = AllByRecursion-map (IsUnmoved e d) (λ s. Stays (actor (frame_of d) s.session) s.rel) d.subscriptions one_stays u

  pub circuits_stay : (ks : List RoleCircuit) → AllByRecursion (IsRoleCircuit e) ks → AllByRecursion (λ k. is_read (frame_of d) k ≡ true) ks → AllByRecursion (IsRoleCircuit d) ks
  circuits_stay [] a r = tt
  circuits_stay (k ∷ ks) a r =
      let x = read_has (frame_of d) k Stays r.0 each_stays k.circuit a.0.known a.0.is in
      (record { known = x.0; is = x.1; opened = a.0.opened }, circuits_stay ks a.1 r.1)

-- ---- a new relation, which has no row

abbrev pub with_relation_of : (name owner : Name) → Held → Store → Store
with_relation_of name owner held e = with_database (database.with_relation_of name owner held (database_of e)) e

module _ (e : Store) (h : IsSoundStore e) (name owner : Name) (held : Held) where
  abbrev c : Store
  c = with_relation_of name owner held e

  abbrev x : CatalogEntry
  x = record { name = name; rel = length e.catalog; held = held }

  abbrev g : Guard
  g = record { owner = role_number e.known.rights owner; enabled = false; forced = false; policies = [] }

  relation_unmoved_by : (s : Subscription) → IsOpen e s → IsUnmoved e c s
  relation_unmoved_by s o =
      let r = e.known.rights in
      let q = c.known.rights in
      let same = numbered-with_held name (Some held) e.catalog s.rel (numbered-is_some 0 e.catalog s.rel h.stored.database.numbered (omega arith) (let k = o.known in omega (arith, k))) in
      record {
        plan = ap (λ (y : Option CatalogEntry). if_some y (Scan s.rel) (λ z. plan_of z.rel z.held)) same;
        needs = ap (λ (y : Option CatalogEntry). if_some y [] (λ z. reached_by z.rel z.held)) same;
        reads = λ rel k. has_more r q (actor (frame_of e) s.session) (λ o. refl) Select rel (length r.guards) all_privileges (Role (role_number e.known.rights owner)) refl k;
        sees = λ T k. allowed-guard_pushed r q (actor (frame_of e) s.session) g e.tables T (λ o. refl) refl refl (λ t l. none_beyond (database_of e) h.stored.database t (subst (λ m. m ≤ t) h.stored.database.guards l)) k;
        cap = refl;
        acts = refl;
        grows = let l = length-append e.catalog (x ∷ []) in omega (arith, l);
        kinds = λ t l. ap (λ (y : Option CatalogEntry). option_map kinds_of (if_some y None (λ z. table_in z.held))) (numbered-with_held name (Some held) e.catalog t (numbered-is_some 0 e.catalog t h.stored.database.numbered (omega arith) (omega (arith, l))));
        sight = λ t l. may_see-guard_pushed r q (actor (frame_of e) s.session) g (λ o. refl) refl refl t (subst (λ m. t < m) (sym h.stored.database.guards) l);
      }

  pub relation_unmoved : AllByRecursion (IsUnmoved e c) e.subscriptions
  relation_unmoved = AllByRecursion-map (IsOpen e) (IsUnmoved e c) e.subscriptions relation_unmoved_by h.stored.shows

  before : (T : Lists) → Stands T c.tables → Stands T e.tables
  before T k t q = ap (λ z. weight_of z q) (sym (rows_of-with_table held (length e.catalog) e.tables t)) ∙ k t q

  pub relation_sound : IsSoundStore c
  relation_sound =
      record {
        stored = record {
          numbers = record { unique = h.stored.numbers.unique; given = h.stored.numbers.given };
          database = relation_stored (database_of e) h.stored.database name owner held;
          shows = AllByRecursion-map (IsOpen e) (IsOpen c) e.subscriptions (λ s o. record { session = o.session; known = let k = o.known in let l = length-append e.catalog (x ∷ []) in omega (arith, k, l) }) h.stored.shows;
        };
        served = all_read e c e.subscriptions relation_unmoved h.served;
        within = all_within e c e.subscriptions relation_unmoved before h.within;
        circuits = circuits_stay e c before relation_unmoved e.circuits h.circuits h.read;
        there = all_there e c e.subscriptions relation_unmoved refl h.there;
        read = h.read;
      }

-- ---- request by request

module _ (e : Store) (n : ℕ) (h : IsSoundStore e) where
  module _ (role : Name) where
    abbrev begun : Store
    begun = kept_after e n (begin role)

    begin_same : (s : Subscription) → IsOpen e s → session_of begun.sessions s.session ≡ session_of e.sessions s.session
    begin_same s o = open_same e.sessions (record { number = n; role = role_number e.known.rights role }) s.session o.session

    pub begin_unmoved : AllByRecursion (IsUnmoved e begun) e.subscriptions
    begin_unmoved = AllByRecursion-map (IsOpen e) (IsUnmoved e begun) e.subscriptions (λ s o. IsUnmoved-same_session e begun.sessions e.subscriptions e.circuits s (begin_same s o)) h.stored.shows

    begin_read : AllByRecursion (λ k. is_read (frame_of begun) k ≡ true) e.circuits
    begin_read = AllByRecursion-map (λ k. is_read (frame_of e) k ≡ true) (λ k. is_read (frame_of begun) k ≡ true) e.circuits
        (λ k r. list_any-session_of (frame_of e) begun.sessions k e.subscriptions (AllByRecursion-map (IsOpen e) (λ s. session_of begun.sessions s.session ≡ session_of e.sessions s.session) e.subscriptions begin_same h.stored.shows) ∙ r) h.read

    pub begin_sound : frame_refusal (frame_of e) n (begin role) ≡ None → IsSoundStore begun
    begin_sound passed = record {
      stored = record {
        numbers = record { unique = h.stored.numbers.unique; given = h.stored.numbers.given };
        database = begin_stored (database_of e) h.stored.database n role passed;
        shows = AllByRecursion-map (IsOpen e) (IsOpen begun) e.subscriptions (λ s o. record { session = ap (λ p. is_some p) (begin_same s o) ∙ o.session; known = o.known }) h.stored.shows;
      };
      served = all_read e begun e.subscriptions begin_unmoved h.served;
      within = all_within e begun e.subscriptions begin_unmoved (λ T k. k) h.within;
      circuits = circuits_stay e begun (λ T k. k) begin_unmoved e.circuits h.circuits begin_read;
      there = all_there e begun e.subscriptions begin_unmoved refl h.there;
      read = begin_read;
    }

  module _ (name : Name) where
    abbrev named : Store
    named = kept_after e n (create_role name)

    pub role_unmoved : AllByRecursion (IsUnmoved e named) e.subscriptions
    role_unmoved = AllByRecursion-map (IsOpen e) (IsUnmoved e named) e.subscriptions (λ s o.
        let r = e.known.rights in
        let q = named.known.rights in
        let a = some_role (session_of e.sessions s.session) (length q.roles) (length r.roles) o.session in
        let k = actor (frame_of e) s.session in
        let called : role_name q k ≡ role_name r k = ap (λ z. unwrap_or z []) (slice_get-push r.roles name k (role_below e.sessions s.session (length r.roles) h.stored.database.roles o.session)) in
        record {
          plan = refl;
          needs = refl;
          reads = λ rel y. ap (λ role. has q role Select rel) a ∙ has-ReachesAlike q r k (λ o. refl) Select rel refl ∙ y;
          sees = λ T y. ap (λ role. allowed q role T) a ∙ (λ i t. filter-ReachesAlike q r k t (λ o. refl) called refl (T t) i);
          cap = refl;
          acts = a;
          grows = omega arith;
          kinds = λ t l. refl;
          sight = λ t l row. ap (λ role. may_see q role t row) a ∙ may_see-ReachesAlike q r k t (λ o. refl) called refl row;
        }) h.stored.shows

    pub role_sound : frame_refusal (frame_of e) n (create_role name) ≡ None → IsSoundStore named
    role_sound passed = record {
      stored = record {
        numbers = record { unique = h.stored.numbers.unique; given = h.stored.numbers.given };
        database = role_stored (database_of e) h.stored.database n name passed;
        shows = AllByRecursion-map (IsOpen e) (IsOpen named) e.subscriptions (λ s o. record { session = o.session; known = o.known }) h.stored.shows;
      };
      served = all_read e named e.subscriptions role_unmoved h.served;
      within = all_within e named e.subscriptions role_unmoved (λ T k. k) h.within;
      circuits = circuits_stay e named (λ T k. k) role_unmoved e.circuits h.circuits h.read;
      there = all_there e named e.subscriptions role_unmoved refl h.there;
      read = h.read;
    }

  module _ (rel : Name) (ps : List Privilege) (to : Option Name) where
    abbrev given : Store
    given = kept_after e n (grant rel ps to)

    pub grant_unmoved : AllByRecursion (IsUnmoved e given) e.subscriptions
    grant_unmoved = AllByRecursion-map (IsOpen e) (IsUnmoved e given) e.subscriptions (λ s o.
        let r = e.known.rights in
        let q = given.known.rights in
        let k = actor (frame_of e) s.session in
        record {
          plan = refl;
          needs = refl;
          reads = λ on y. has_more r q k (λ o. refl) Select on (rel_of e.catalog rel) ps (grantee_of r to) refl y;
          sees = λ T y. (λ i t. filter-ReachesAlike q r k t (λ o. refl) refl refl (T t) i);
          cap = refl;
          acts = refl;
          grows = omega arith;
          kinds = λ t l. refl;
          sight = λ t l row. may_see-ReachesAlike q r k t (λ o. refl) refl refl row;
        }) h.stored.shows

    pub grant_sound : IsSoundStore given
    grant_sound = record {
      stored = record {
        numbers = record { unique = h.stored.numbers.unique; given = h.stored.numbers.given };
        database = IsDatabase-with_rights (database_of e) given.known.rights h.stored.database.guards refl h.stored.database;
        shows = AllByRecursion-map (IsOpen e) (IsOpen given) e.subscriptions (λ s o. record { session = o.session; known = o.known }) h.stored.shows;
      };
      served = all_read e given e.subscriptions grant_unmoved h.served;
      within = all_within e given e.subscriptions grant_unmoved (λ T k. k) h.within;
      circuits = circuits_stay e given (λ T k. k) grant_unmoved e.circuits h.circuits h.read;
      there = all_there e given e.subscriptions grant_unmoved refl h.there;
      read = h.read;
    }

  module _ (name owner : Name) (columns : List Column) where
    pub table_unmoved : AllByRecursion (IsUnmoved e (kept_after e n (create_table name owner columns))) e.subscriptions
    table_unmoved = relation_unmoved e h name owner (Table columns)

    pub table_sound : IsSoundStore (kept_after e n (create_table name owner columns))
    table_sound = relation_sound e h name owner (Table columns)

  module _ (name owner : Name) (query : Name) (passed : frame_refusal (frame_of e) n (create_view name owner query) ≡ None) where
    view : (a : BoundQuery) × (database_after (database_of e) n (create_view name owner query) ≡ database.with_relation_of name owner (View a) (database_of e))
    view = view_is (database_of e) h.stored.database n name owner query passed

    added : kept_after e n (create_view name owner query) ≡ with_relation_of name owner (View view.0) e
    added = ap (λ d. with_database d e) view.1

    pub view_unmoved : AllByRecursion (IsUnmoved e (kept_after e n (create_view name owner query))) e.subscriptions
    view_unmoved = subst (λ (d : Store). AllByRecursion (IsUnmoved e d) e.subscriptions) (sym added) (relation_unmoved e h name owner (View view.0))

    pub view_sound : IsSoundStore (kept_after e n (create_view name owner query))
    view_sound = subst IsSoundStore (sym added) (relation_sound e h name owner (View view.0))

-- ---- the start

abbrev pub kept_at_start : (cap : ℕ) → Store
kept_at_start cap = record { cap = cap; known = access_at_start; catalog = []; sessions = []; subscriptions = []; circuits = []; last = 0; tables = [] }

pub IsSoundStore-kept_at_start : (cap : ℕ) → IsRowLimit cap → IsSoundStore (kept_at_start cap)
IsSoundStore-kept_at_start cap limit = record {
  stored = record {
    numbers = record { unique = tt; given = tt };
    database = IsDatabase-at_start cap limit;
    shows = tt;
  };
  served = tt;
  within = tt;
  circuits = tt;
  there = tt;
  read = tt;
}
