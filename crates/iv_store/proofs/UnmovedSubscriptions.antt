-- Subscriptions that a change of sessions, rights or relations leaves as they were: what they show, the limits of it, and
-- that their readers may read.
use Rattle.std.proofs.Common.{◌≡◌, ℕ, zero, suc, ◌<◌, ◌≤◌, Bool, true, false, cond, not, List, [], ◌∷◌, ◌++◌, length, map, Option, None, Some, refl, sym, ap, subst, ◌∙◌, arith}
use Rattle.std.proofs.lemmas.Bool.Decides.{nat_tests}
use Rattle.std.specs.Prelude.{◌==◌, filter, is_some, nat_lt, option_map, slice_get, unwrap_or}
use Rattle.iv_algebra.specs.Evaluation.{eval, plan_within}
use Rattle.iv_algebra.specs.Plans.{Lists}
use Rattle.iv_algebra.specs.Contents.{rows_of}
use Rattle.iv_algebra.specs.declared.tables.Table.{Table}
use Rattle.iv_bind.specs.Catalogs.{CatalogEntry, Held, numbered}
use Rattle.iv_access.specs.Laws.{ReachesAlike}
use Rattle.iv_access.specs.declared.privilege.Privilege.TheVariants.{Select}
use Rattle.iv_access.specs.Policies.{allowed, may_see}
use Rattle.iv_algebra.specs.Fits.{or_nothing}
use Rattle.iv_algebra.specs.Rows.{Cells}
use Rattle.iv_circuit.specs.Circuits.{Running}
use Rattle.iv_circuit.specs.Keeping.{StandsOn}
use Rattle.iv_access.specs.Privileges.{first_missing, has, role_name}
use Rattle.iv_access.specs.Rights.{Guard, Name, Rights}
use Rattle.iv_machine.specs.Changing.{with_held}
use Rattle.iv_machine.specs.State.{Session, Subscription, actor, is_within, needs_at, next_rel, plan_at, session_of}
use Rattle.iv_machine.proofs.SubscriptionPlaces.{find_kept}
use Rattle.iv_store.specs.Store.{IsCircuitOf, Store, at, frame_of, may_read, shown_rows}
use Rattle.iv_readers.specs.Readers.{RoleCircuit}
use Rattle.iv_database.specs.Database.{kinds_at}
use Rattle.iv_database.specs.Stands.{Stands}
use Rattle.iv_database.proofs.RowKinds.{HasKinds-Counts}
use Rattle.iv_store.proofs.VisibleRows.{filter-ReachesAlike, may_see-ReachesAlike}

-- in d it has the plan and the needs that it has in e, and its reader may select what it might, and sees the same rows; the
-- relations of e are those of d, and the reader is the same and sees the same of each table
pub record IsUnmoved (e d : Store) (s : Subscription) : Type 0 where
  pub plan : plan_at d.catalog s.rel ≡ plan_at e.catalog s.rel
  pub needs : needs_at d.catalog s.rel ≡ needs_at e.catalog s.rel
  pub reads : (rel : ℕ) → has e.known.rights (actor (frame_of e) s.session) Select rel ≡ true → has d.known.rights (actor (frame_of d) s.session) Select rel ≡ true
  pub sees : (T : Lists) → Stands T e.tables → allowed d.known.rights (actor (frame_of d) s.session) T ≡ allowed e.known.rights (actor (frame_of e) s.session) T
  pub cap : d.cap ≡ e.cap
  pub acts : actor (frame_of d) s.session ≡ actor (frame_of e) s.session
  pub grows : length e.catalog ≤ length d.catalog
  pub kinds : (t : ℕ) → t < length e.catalog → kinds_at d.catalog t ≡ kinds_at e.catalog t
  pub sight : (t : ℕ) → t < length e.catalog → (row : Cells) → may_see d.known.rights (actor (frame_of d) s.session) t row ≡ may_see e.known.rights (actor (frame_of e) s.session) t row

-- ---- what follows

module _ (r q : Rights) (a b : ℕ) (go : (rel : ℕ) → has r a Select rel ≡ true → has q b Select rel ≡ true) where
  pub reads_all : (ns : List ℕ) → not (is_some (first_missing r a (map (λ n. (Select, n)) ns))) ≡ true → not (is_some (first_missing q b (map (λ n. (Select, n)) ns))) ≡ true
  reads_all [] h = refl
  reads_all (n ∷ ns) h = by (has r a Select n) refl h (reads_all ns)
    where
      by : (x : Bool) → has r a Select n ≡ x → not (is_some (cond x (first_missing r a (map (λ m. (Select, m)) ns)) (Some (Select, n)))) ≡ true
          → (not (is_some (first_missing r a (map (λ m. (Select, m)) ns))) ≡ true → not (is_some (first_missing q b (map (λ m. (Select, m)) ns))) ≡ true)
          → not (is_some (cond (has q b Select n) (first_missing q b (map (λ m. (Select, m)) ns)) (Some (Select, n)))) ≡ true
      by true k l rest = ap (λ c. not (is_some (cond c (first_missing q b (map (λ m. (Select, m)) ns)) (Some (Select, n))))) (go n k) ∙ rest l
      by false k l rest = cc

module _ (e d : Store) (s : Subscription) (u : IsUnmoved e d s) where
  pub still_read : may_read e s ≡ true → may_read d s ≡ true
  still_read h = ap (λ ns. not (is_some (first_missing d.known.rights (actor (frame_of d) s.session) (map (λ n. (Select, n)) ns)))) u.needs
      ∙ reads_all e.known.rights d.known.rights (actor (frame_of e) s.session) (actor (frame_of d) s.session) u.reads (needs_at e.catalog s.rel) h

  module _ (T : Lists) (stands : Stands T e.tables) where
    pub still_shown : shown_rows d T s ≡ shown_rows e T s
    still_shown = λ i. eval (u.plan i) (u.sees T stands i)

    pub still_within : is_within (at d T) s ≡ is_within (at e T) s
    still_within = λ i. plan_within (u.cap i) (u.plan i) (u.sees T stands i)

  -- its circuit
  pub still_circuit : ((T : Lists) → Stands T d.tables → Stands T e.tables) → (c : Running) → IsCircuitOf e s c → IsCircuitOf d s c
  still_circuit back c h = record {
    cap = h.cap ∙ sym u.cap;
    plan = h.plan ∙ sym u.plan;
    known = λ k x lt. let l = h.known k x lt in let g = u.grows in omega (arith, l, g);
    scans = λ k x lt. let l = h.known k x lt in let i = h.scans k x lt in record {
      columns = i.columns ∙ ap (λ o. length (or_nothing o)) (sym (u.kinds _ l));
      filter = λ row. i.filter row ∙ sym (u.sight _ l row);
    };
    stands = λ T w. subst (StandsOn c.cap c.node) (sym (u.sees T (back T w))) (h.stands T (back T w));
  }

-- ---- one relation more

pub slice_get-push : {X : Type 0} (xs : List X) (x : X) (k : ℕ) → k < length xs → slice_get (xs ++ x ∷ []) k ≡ slice_get xs k
slice_get-push [] x k l = absurd (omega arith)
slice_get-push (y ∷ xs) x zero l = refl
slice_get-push (y ∷ xs) x (suc k) l = slice_get-push xs x k (omega arith)

-- those before keep their plans and needs
pub numbered-with_held : (name : Name) (o : Option Held) (es : List CatalogEntry) (rel : ℕ) → is_some (numbered es rel) ≡ true → numbered (with_held name o es) rel ≡ numbered es rel
numbered-with_held name None es rel h = refl
numbered-with_held name (Some held) es rel h = find_kept (λ (x : CatalogEntry). rel == x.rel) es (record { name = name; rel = next_rel es; held = held } ∷ []) h

below : (m n : ℕ) → nat_lt m n ≡ true → m < n
below m n h = grind (arith, nat_tests)

beyond : (m n : ℕ) → nat_lt m n ≡ false → n ≤ m
beyond m n h = grind (arith, nat_tests)

-- what is no relation has no row, and so a guard may come there
pub allowed-guard_pushed : (r q : Rights) (role : ℕ) (g : Guard) (tables : List Table) (T : Lists) → ReachesAlike r q.members role → role_name q role ≡ role_name r role → q.guards ≡ r.guards ++ g ∷ [] → ((t : ℕ) → length r.guards ≤ t → rows_of tables t ≡ []) → Stands T tables → allowed q role T ≡ allowed r role T
allowed-guard_pushed r q role g tables T reach name guards beyond_none stands = λ i t. each t i
  where
    none : (t : ℕ) → length r.guards ≤ t → T t ≡ []
    none t l = HasKinds-Counts None (rows_of tables t) (T t) (beyond_none t l) (stands t)

    by : (t : ℕ) (b : Bool) → nat_lt t (length r.guards) ≡ b → filter (may_see q role t) (T t) ≡ filter (may_see r role t) (T t)
    by t true l = filter-ReachesAlike q r role t reach name (ap (λ gs. slice_get gs t) guards ∙ slice_get-push r.guards g t (below t (length r.guards) l)) (T t)
    by t false l = let empty = none t (beyond t (length r.guards) l) in ap (filter (may_see q role t)) empty ∙ sym (ap (filter (may_see r role t)) empty)

    each : (t : ℕ) → filter (may_see q role t) (T t) ≡ filter (may_see r role t) (T t)
    each t = by t (nat_lt t (length r.guards)) refl

pub may_see-guard_pushed : (r q : Rights) (role : ℕ) (g : Guard) → ReachesAlike r q.members role → role_name q role ≡ role_name r role → q.guards ≡ r.guards ++ g ∷ [] → (t : ℕ) → t < length r.guards → (row : Cells) → may_see q role t row ≡ may_see r role t row
may_see-guard_pushed r q role g reach name guards t l =
    may_see-ReachesAlike q r role t reach name (ap (λ gs. slice_get gs t) guards ∙ slice_get-push r.guards g t l)

-- ---- other sessions

-- where its session's role stays
pub actor_same : (e : Store) (ss : List Session) (n : ℕ) → session_of ss n ≡ session_of e.sessions n → actor (frame_of (record e { sessions = ss })) n ≡ actor (frame_of e) n
actor_same e ss n h = ap (λ (o : Option Session). unwrap_or (option_map (λ x. x.role) o) (length e.known.rights.roles)) h

pub IsUnmoved-same_session : (e : Store) (ss : List Session) (es : List Subscription) (cs : List RoleCircuit) (s : Subscription) → session_of ss s.session ≡ session_of e.sessions s.session → IsUnmoved e (record e { sessions = ss; subscriptions = es; circuits = cs }) s
IsUnmoved-same_session e ss es cs s h = let a = actor_same e ss s.session h in record {
  plan = refl;
  needs = refl;
  reads = λ rel k. ap (λ role. has e.known.rights role Select rel) a ∙ k;
  sees = λ T stands. ap (λ role. allowed e.known.rights role T) a;
  cap = refl;
  acts = a;
  grows = omega arith;
  kinds = λ t l. refl;
  sight = λ t l row. ap (λ role. may_see e.known.rights role t row) a;
}
