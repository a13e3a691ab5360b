-- Changes of the guard of a table, by which rows come to be seen or cease to.
use Rattle.std.proofs.Common.{◌≡◌, ℕ, zero, suc, Bool, true, false, cond, None, ◌||◌, List, [], ◌∷◌, length, refl, sym, ap, ◌∙◌, arith}
use Rattle.std.proofs.lemmas.Bool.Decides.{nat_tests}
use Rattle.std.proofs.lemmas.List.Elements.{All-cons, All-nil}
use Rattle.std.specs.Prelude.{◌==◌, Ok, Err, slice_get}
use Rattle.iv_rows.specs.declared.schema.RelId.{RelId}
use Rattle.iv_database.specs.Database as database
use Rattle.iv_database.specs.Database.{Database}
use Rattle.iv_database.specs.Owned.{IsGuarded}
use Rattle.iv_command.specs.declared.stop.Stop.{Stop}
use Rattle.iv_command.specs.declared.stop.Stop.TheVariants.{Refused, Memory}
use Rattle.std.specs.List.{All, list_any}
use Rattle.iv_algebra.specs.Shapes.{scans as shape_scans}
use Rattle.iv_access.specs.Changing.{changed_at, insert_policy, remove_policy}
use Rattle.iv_access.specs.Rights.{Guard, Name}
use Rattle.iv_circuit.specs.Nodes.{Scanned, scans_of}
use Rattle.iv_machine.specs.Act.{Act, PolicyText, create_policy, drop_policy, row_security}
use Rattle.iv_machine.specs.Refusing.{frame_refusal}
use Rattle.iv_machine.specs.Changing.{policy_for}
use Rattle.iv_machine.specs.State.{plan_at, rel_of}
use Rattle.iv_store.specs.Answering.{IsAccepted, IsStep}
use Rattle.iv_store.specs.Concerned.{scanning}
use Rattle.iv_store.specs.Counting.{scans_at}
use Rattle.iv_store.specs.Next.{kept_after}
use Rattle.iv_store.specs.Store.{database_of, with_database, IsRoleCircuit, IsSoundStore, IsStored, Store, frame_of, with_rights}
use Rattle.iv_readers.specs.Readers.{RoleCircuit}
use Rattle.iv_store.specs.Turned.{AreReadersTold, AreWaiting}
use Rattle.iv_command.specs.declared.answer.Answer.{Answer}
use Rattle.iv_store.proofs.RelationCircuits.{IsCircuitFor-may_see}
use Rattle.iv_store.proofs.RequestSteps.{IsRefused-frame_refusal}
use Rattle.iv_engine.proofs.RightsSteps.{StaysStill, AreReadersTold-same, AreWaiting-same, flag_beside, role_reads-ReachesAlike, righted_step, righted_stored, waiting}
use Rattle.iv_store.proofs.VisibleRows.{may_see-ReachesAlike}
use Rattle.iv_store.proofs.Touches.{scans_alike}

-- ---- one guard of many

as_many : (change : Guard → Guard) (n : ℕ) (gs : List Guard) → length (changed_at n change gs) ≡ length gs
as_many change n [] = refl
as_many change zero (g ∷ gs) = refl
as_many change (suc n) (g ∷ gs) = ap suc (as_many change n gs)

apart_more : (k n : ℕ) → (suc k == suc n) ≡ false → (k == n) ≡ false
apart_more k n h = grind (arith, nat_tests)

other_guard : (change : Guard → Guard) (n k : ℕ) (gs : List Guard) → (k == n) ≡ false → slice_get (changed_at n change gs) k ≡ slice_get gs k
other_guard change n k [] h = refl
other_guard change zero zero (g ∷ gs) h = absurd (let d : true ≡ false = h in cc)
other_guard change zero (suc k) (g ∷ gs) h = refl
other_guard change (suc n) zero (g ∷ gs) h = refl
other_guard change (suc n) (suc k) (g ∷ gs) h = other_guard change n k gs (apart_more k n h)

-- ---- what is kept

abbrev pub guarded : ℕ → (Guard → Guard) → Store → Store
guarded table change e = with_rights (record e.known.rights { guards = changed_at table change e.known.rights.guards }) e

-- the relations that are read from the table
abbrev pub by_table : Store → (table : ℕ) → (role rel : ℕ) → Bool
by_table e table role rel = scans_at e.catalog rel table

module _ (e : Store) (table : ℕ) (change : Guard → Guard) where
  abbrev c : Store
  c = guarded table change e

  abbrev us : List Guard
  us = changed_at table change e.known.rights.guards

  pub guarded_stored : IsStored e → IsStored c
  guarded_stored h = righted_stored e e.known.rights.members us e.known.rights.grants (as_many change table e.known.rights.guards ∙ h.database.guards) h

  -- ---- circuits that do not scan the table

  neither : (x y : Bool) → (x || y) ≡ false → (x ≡ false) × (y ≡ false)
  neither true y h = cc
  neither false y h = (refl, h)

  apart : (ss : List Scanned) → list_any (λ s. s.table == table) ss ≡ false → All (λ s. (s.table == table) ≡ false) ss
  apart [] h = All-nil (λ (s : Scanned). (s.table == table) ≡ false)
  apart (s ∷ ss) h = let x = neither (s.table == table) (list_any (λ (r : Scanned). r.table == table) ss) h in
      All-cons (λ (r : Scanned). (r.table == table) ≡ false) s ss x.0 (apart ss x.1)

  -- a circuit scans the table where its plan does
  far_scans : (k : RoleCircuit) → scans_at e.catalog k.rel table ≡ false → IsRoleCircuit e k → list_any (λ s. s.table == table) (scans_of k.circuit.node) ≡ false
  far_scans k far i = sym (scans_alike (λ t. t == table) k.circuit.node) ∙ ap (λ p. list_any (λ t. t == table) (shape_scans p)) i.is.plan ∙ far

  pub guard_still : StaysStill e e.known.rights.members us e.known.rights.grants (by_table e table)
  guard_still k far i reads = record {
    is = IsCircuitFor-may_see e c.known.rights k.role (plan_at e.catalog k.rel) k.circuit
        (λ j x lt row. may_see-ReachesAlike c.known.rights e.known.rights k.role _ (λ o. refl) refl (other_guard change table _ e.known.rights.guards (apart (scans_of k.circuit.node) (far_scans k far i) j x lt)) row) i.is;
    reads = role_reads-ReachesAlike e c.known.rights k.role k.rel (λ o. refl) refl ∙ reads;
  }

  pub guard_waiting : IsSoundStore e → AreWaiting c (scanning e table)
  guard_waiting h = waiting e e.known.rights.members us e.known.rights.grants (by_table e table) guard_still (guarded_stored h.stored) h

-- ---- the requests

-- the rounds of those that read the table begin anew
anew_where : (e : Store) (table k was now : ℕ) (b : Bool) → b ≡ scans_at e.catalog k table → now ≡ cond b 0 was → now ≡ cond (scans_at e.catalog k table) 0 was
anew_where e table k was now b flag is = is ∙ ap (λ x. cond x 0 was) flag

module _ (e : Store) (n : ℕ) (h : IsSoundStore e) (new : Store) (a : Answer) where
  pub security_step : (rel : Name) (enable force : Bool) → frame_refusal (frame_of e) n (row_security rel enable force) ≡ None
      → AreReadersTold (kept_after e n (row_security rel enable force)) (scanning e (rel_of e.catalog rel)) a new → IsAccepted e n (row_security rel enable force) a new
  security_step rel enable force passed told =
      let t = rel_of e.catalog rel in
      let change : Guard → Guard = λ g. record g { enabled = enable; forced = force } in
      righted_step e e.known.rights.members (changed_at t change e.known.rights.guards) e.known.rights.grants n (row_security rel enable force) (scanning e t)
      (record {
        rows = λ T. refl;
        after = λ T. refl;
        ends = λ s. refl;
        reply = refl;
        stored = guarded_stored e t change h.stored;
        counts = λ ss cs s was now there reads is. anew_where e t s.rel was now _ (flag_beside (by_table e t) e s there) is;
      }) h new a passed told

  pub drop_step : (rel name : Name) → frame_refusal (frame_of e) n (drop_policy rel name) ≡ None
      → AreReadersTold (kept_after e n (drop_policy rel name)) (scanning e (rel_of e.catalog rel)) a new → IsAccepted e n (drop_policy rel name) a new
  drop_step rel name passed told =
      let t = rel_of e.catalog rel in
      let change : Guard → Guard = λ g. record g { policies = remove_policy name g.policies } in
      righted_step e e.known.rights.members (changed_at t change e.known.rights.guards) e.known.rights.grants n (drop_policy rel name) (scanning e t)
      (record {
        rows = λ T. refl;
        after = λ T. refl;
        ends = λ s. refl;
        reply = refl;
        stored = guarded_stored e t change h.stored;
        counts = λ ss cs s was now there reads is. anew_where e t s.rel was now _ (flag_beside (by_table e t) e s there) is;
      }) h new a passed told

  pub policy_step : (p : PolicyText) → frame_refusal (frame_of e) n (create_policy p) ≡ None
      → AreReadersTold (kept_after e n (create_policy p)) (scanning e (rel_of e.catalog p.rel)) a new → IsAccepted e n (create_policy p) a new
  policy_step p passed told =
      let t = rel_of e.catalog p.rel in
      let with_it : Guard → Guard = λ g. record g { policies = insert_policy (policy_for (frame_of e) p) g.policies } in
      righted_step e e.known.rights.members (changed_at t with_it e.known.rights.guards) e.known.rights.grants n (create_policy p) (scanning e t)
      (record {
        rows = λ T. refl;
        after = λ T. refl;
        ends = λ s. refl;
        reply = refl;
        stored = guarded_stored e t with_it h.stored;
        counts = λ ss cs s was now there reads is. anew_where e t s.rel was now _ (flag_beside (by_table e t) e s there) is;
      }) h new a passed told

-- the request has changed the guard of a table of the name
pub record IsGuarding (e : Store) (n : ℕ) (act : Act) (rel : Name) : Type 0 where
  pub same : (v : Store) → frame_refusal (database.frame_of (database_of v)) n act ≡ frame_refusal (frame_of v) n act
  pub scans : (t : ℕ) → scanning (kept_after e n act) t ≡ scanning e t
  pub waits : IsSoundStore e → AreWaiting (kept_after e n act) (scanning e (rel_of e.catalog rel))
  pub steps : (new : Store) (a : Answer) → IsSoundStore e → frame_refusal (frame_of e) n act ≡ None
      → AreReadersTold (kept_after e n act) (scanning e (rel_of e.catalog rel)) a new → IsAccepted e n act a new

pub IsGuarding-row_security : (e : Store) (n : ℕ) (rel : Name) (enable force : Bool) → IsGuarding e n (row_security rel enable force) rel
IsGuarding-row_security e n rel enable force = record {
  same = λ v. refl;
  scans = λ t. refl;
  waits = guard_waiting e (rel_of e.catalog rel) (λ g. record g { enabled = enable; forced = force });
  steps = λ new a h. security_step e n h new a rel enable force;
}

pub IsGuarding-drop_policy : (e : Store) (n : ℕ) (rel name : Name) → IsGuarding e n (drop_policy rel name) rel
IsGuarding-drop_policy e n rel name = record {
  same = λ v. refl;
  scans = λ t. refl;
  waits = guard_waiting e (rel_of e.catalog rel) (λ g. record g { policies = remove_policy name g.policies });
  steps = λ new a h. drop_step e n h new a rel name;
}

pub IsGuarding-create_policy : (e : Store) (n : ℕ) (p : PolicyText) → IsGuarding e n (create_policy p) p.rel
IsGuarding-create_policy e n p = record {
  same = λ v. refl;
  scans = λ t. refl;
  waits = guard_waiting e (rel_of e.catalog p.rel) (λ g. record g { policies = insert_policy (policy_for (frame_of e) p) g.policies });
  steps = λ new a h. policy_step e n h new a p;
}

-- ---- what the database says of such a request

module _ (e u : Store) (d : Database) (n : ℕ) (act : Act) (rel : Name) (is : u ≡ e) (g : IsGuarding e n act rel) (h : IsSoundStore e) where
  module _ (table : RelId) (told : IsGuarded (database_of u) n act rel (Ok table) d) where
    passed : frame_refusal (frame_of e) n act ≡ None
    passed = ap (λ (v : Store). frame_refusal (frame_of v) n act) (sym is) ∙ sym (g.same u) ∙ told.0

    pub guard_is : with_database d u ≡ kept_after e n act
    guard_is = ap (λ x. with_database x u) told.2 ∙ ap (λ (v : Store). kept_after v n act) is

    flags : scanning (with_database d u) table.0 ≡ scanning e (rel_of e.catalog rel)
    flags = ap (λ (v : Store). scanning v table.0) guard_is ∙ g.scans table.0 ∙ ap (scanning e) (sym told.1 ∙ ap (λ (v : Store). rel_of v.catalog rel) is)

    pub guard_waits : AreWaiting (with_database d u) (scanning (with_database d u) table.0)
    guard_waits = AreWaiting-same (with_database d u) (kept_after e n act) _ _ guard_is flags (g.waits h)

    pub guard_steps : (new : Store) (a : Answer) → AreReadersTold (with_database d u) (scanning (with_database d u) table.0) a new → IsAccepted e n act a new
    guard_steps new a readers = g.steps new a h passed (AreReadersTold-same (with_database d u) (kept_after e n act) _ _ a new guard_is flags readers)

  pub guard_stops : (stop : Stop) → IsGuarded (database_of u) n act rel (Err stop) d → IsStep e n act (Err stop) (with_database d u)
  guard_stops (Refused r) told = IsRefused-frame_refusal e (with_database d u) n act r (ap (λ (v : Store). frame_refusal (frame_of v) n act) (sym is) ∙ sym (g.same u) ∙ told.0) (ap (λ x. with_database x u) told.1 ∙ is)
  guard_stops Memory told = tt
