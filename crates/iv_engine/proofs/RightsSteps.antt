-- A change of rights as a step of the machine.
use Rattle.std.proofs.Common.{◌≡◌, ℕ, Bool, true, false, cond, not, List, [], ◌∷◌, length, map, None, Some, refl, sym, ap, subst, ◌∙◌}
use Rattle.std.specs.Prelude.{IfSome, filter, flat_map, is_some}
use Rattle.std.specs.List.{AllByRecursion}
use Rattle.iv_zset.specs.Limits.{Counts}
use Rattle.iv_algebra.specs.Plans.{Lists}
use Rattle.iv_access.specs.Laws.{ReachesAlike}
use Rattle.iv_access.specs.Privileges.{first_missing}
use Rattle.iv_roles.specs.Memberships.{Membership}
use Rattle.iv_access.specs.Rights.{Grant, Guard, Rights}
use Rattle.iv_access.specs.declared.privilege.Privilege.{Privilege}
use Rattle.iv_access.specs.declared.privilege.Privilege.TheVariants.{Select}
use Rattle.iv_machine.specs.Act as machine
use Rattle.iv_machine.specs.Act.{Act}
use Rattle.iv_machine.specs.Changing.{after}
use Rattle.iv_machine.specs.Machine.{changes, ending, ending_by, line_for, reply_to, settled}
use Rattle.iv_machine.specs.Refusing.{frame_refusal, or_else, refusal, rows_refusal}
use Rattle.iv_machine.specs.State.{State, Subscription, actor, is_within, missing_for, needs_at}
use Rattle.iv_store.specs.Answering.{IsAccepted, seen, sent}
use Rattle.iv_store.specs.Counting.{TurnsRounds}
use Rattle.iv_readers.specs.Each.{Each}
use Rattle.iv_store.specs.Found.{beside_of, total_at}
use Rattle.iv_database.proofs.StoredFacts.{IsDatabase-with_rights}
use Rattle.iv_store.specs.Store.{database_of, IsOpen, IsRoleCircuit, IsSoundStore, IsStored, Store, at, frame_of, is_read, may_read, place_of, role_reads, shown_rows, with_rights}
use Rattle.iv_readers.specs.Readers.{RoleCircuit}
use Rattle.iv_store.specs.Rounds.{rounds_of}
use Rattle.iv_store.specs.Engine.{IsBehind}
use Rattle.iv_database.specs.Stands.{Stands}
use Rattle.iv_store.specs.Turned.{AreReadersTold, AreShowed, AreWaiting, IsOther, IsStill, WasRead, stays_open, turned_line}
use Rattle.iv_command.specs.Views.{line_of, reply_of}
use Rattle.iv_command.specs.declared.answer.Answer.{Answer}
use Rattle.iv_store.proofs.Beside.{beside_each}
use Rattle.iv_store.proofs.RelationCircuits.{bag_for}
use Rattle.iv_store.proofs.SubscriptionRounds.{IsBeside, AllByRecursion-IsBeside, those_counted}
use Rattle.iv_store.proofs.FilteredLists.{AllByRecursion-filter, AllByRecursion-filtered_pass}
use Rattle.iv_store.proofs.SubscriptionViews.{lists_behind, Stands-IsStored}
use Rattle.iv_readers.proofs.Lists.{AllByRecursion-map, AllByRecursion-zip}
use Rattle.iv_store.proofs.Sound.{has-ReachesAlike}
use Rattle.iv_store.proofs.RequestSteps.{not_refused-Ok}
use Rattle.iv_store.proofs.Totals.{total_counts}
use Rattle.iv_store.proofs.Unread.{read_has}
use Rattle.iv_engine.proofs.Left.{IfSome-each, left_sound, not-first_cause, turned_lines}

-- ---- what a role may read

first_same : (r q : Rights) (role : ℕ) → ReachesAlike q r.members role → (ps : List (Privilege × ℕ)) → r.grants ≡ q.grants → first_missing r role ps ≡ first_missing q role ps
first_same r q role reach [] h = refl
first_same r q role reach (p ∷ ps) h = λ i. cond (has-ReachesAlike r q role reach p.0 p.1 h i) (first_same r q role reach ps h i) (Some p)

-- the same where it reaches the same roles and the grants are the same
pub role_reads-ReachesAlike : (e : Store) (q : Rights) (role rel : ℕ) → ReachesAlike e.known.rights q.members role → q.grants ≡ e.known.rights.grants → role_reads (with_rights q e) role rel ≡ role_reads e role rel
role_reads-ReachesAlike e q role rel reach grants = ap (λ o. not (is_some o)) (first_same q e.known.rights role reach (map (λ r. (Select, r)) (needs_at e.catalog rel)) grants)

-- of a circuit that is read the role may read the relation
circuits_read : (e : Store) → (ss : List Subscription) → AllByRecursion (λ s. may_read e s ≡ true) e.subscriptions → (ks : List RoleCircuit)
    → AllByRecursion (λ k. is_read (frame_of e) k ≡ true) ks → AllByRecursion (λ k. role_reads e k.role k.rel ≡ true) ks
circuits_read e ss served ks read = AllByRecursion-map (λ k. is_read (frame_of e) k ≡ true) (λ k. role_reads e k.role k.rel ≡ true) ks
    (λ k mine. read_has (frame_of e) k (λ role rel. role_reads e role rel ≡ true) mine served) read

-- ---- which circuits a change concerns

-- by the role and the relation
module _ (F : ℕ → ℕ → Bool) where
  abbrev pub flags_of : List RoleCircuit → List Bool
  flags_of ks = map (λ k. F k.role k.rel) ks

  each_flag : (ks : List RoleCircuit) → Each (λ k b. b ≡ F k.role k.rel) ks (flags_of ks)
  each_flag [] = tt
  each_flag (k ∷ ks) = (refl, each_flag ks)

  -- what stands beside the circuit of a subscription
  pub flag_beside : (e : Store) (s : Subscription) → is_some (place_of e s) ≡ true → beside_of false e (flags_of e.circuits) s ≡ F (actor (frame_of e) s.session) s.rel
  flag_beside e s there =
      let role = actor (frame_of e) s.session in
      beside_each role s.rel false (λ k b. b ≡ F k.role k.rel) (λ b. b ≡ F role s.rel) (λ k b x y is. is ∙ (λ i. F (x i) (y i))) e.circuits (flags_of e.circuits) (each_flag e.circuits) there

each_of : (P : Subscription → Type 0) (ss : List Subscription) → ((s : Subscription) → P s) → AllByRecursion P ss
each_of P [] go = tt
each_of P (s ∷ ss) go = (go s, each_of P ss go)

-- ---- circuits before readers are told

pub were_read_now : (e : Store) → IsSoundStore e → AllByRecursion (WasRead e) e.circuits
were_read_now e h = AllByRecursion-map (IsRoleCircuit e) (WasRead e) e.circuits
    (λ k i. record { known = i.known; bag = bag_for e k.role k.rel k.circuit i.is h.stored; rights = e.known.rights; is = i.is; opened = i.opened }) h.circuits

-- in another state with other flags, where both are the same
pub AreWaiting-same : (v u : Store) (bs cs : List Bool) → v ≡ u → bs ≡ cs → AreWaiting u cs → AreWaiting v bs
AreWaiting-same v u bs cs is same h = subst (λ (x : Store). AreWaiting x bs) (sym is) (subst (AreWaiting u) (sym same) h)

pub AreReadersTold-same : (v u : Store) (bs cs : List Bool) (a : Answer) (new : Store) → v ≡ u → bs ≡ cs → AreReadersTold v bs a new → AreReadersTold u cs a new
AreReadersTold-same v u bs cs a new is same h =
    subst (λ (x : Store). AreReadersTold x cs a new) is (subst (λ (xs : List Bool). AreReadersTold v xs a new) same h)

-- ---- other memberships, grants and guards

module _ (e : Store) (ms : List Membership) (us : List Guard) (gs : List Grant) where
  abbrev q : Rights
  q = record e.known.rights { members = ms; guards = us; grants = gs }

  abbrev pub c : Store
  c = with_rights q e

  -- what is stored, where each relation has its guard
  pub righted_stored : length us ≡ length e.catalog → IsStored e → IsStored c
  righted_stored guards h = record {
    numbers = record { unique = h.numbers.unique; given = h.numbers.given };
    database = IsDatabase-with_rights (database_of e) q guards refl h.database;
    shows = AllByRecursion-map (IsOpen e) (IsOpen c) e.subscriptions (λ s o. record { session = o.session; known = o.known }) h.shows;
  }

  -- ---- what is asked of the state in which readers are told

  were_read : IsSoundStore e → AllByRecursion (WasRead c) c.circuits
  were_read h = AllByRecursion-map (IsRoleCircuit e) (WasRead c) e.circuits
      (λ k i. record { known = i.known; bag = bag_for e k.role k.rel k.circuit i.is h.stored; rights = e.known.rights; is = i.is; opened = i.opened }) h.circuits

  -- a circuit stays as it is that the change does not concern
  abbrev pub StaysStill : (F : ℕ → ℕ → Bool) → Type 0
  StaysStill F = (k : RoleCircuit) → F k.role k.rel ≡ false → IsRoleCircuit e k → role_reads e k.role k.rel ≡ true → IsStill c k

  others_by : (F : ℕ → ℕ → Bool) → StaysStill F → (ks : List RoleCircuit) → AllByRecursion (IsRoleCircuit e) ks → AllByRecursion (λ k. role_reads e k.role k.rel ≡ true) ks → Each (IsOther c) ks (flags_of F ks)
  others_by F still [] a r = tt
  others_by F still (k ∷ ks) a r = ((λ off. still k off a.0 r.0), others_by F still ks a.1 r.1)

  others : (F : ℕ → ℕ → Bool) → StaysStill F → IsSoundStore e → Each (IsOther c) c.circuits (flags_of F e.circuits)
  others F still h = others_by F still e.circuits h.circuits (circuits_read e e.subscriptions h.served e.circuits h.read)

  pub waiting : (F : ℕ → ℕ → Bool) → StaysStill F → IsStored c → IsSoundStore e → AreWaiting c (flags_of F e.circuits)
  waiting F still stored h = record { stored = stored; were = were_read h; others = others F still h; there = h.there }

  -- ---- the step

  -- the request changes the rights so, and nothing else
  pub record IsRighting (n : ℕ) (act : Act) (concerned : List Bool) : Type 0 where
    pub rows : (T : Lists) → rows_refusal (at e T) n act ≡ None
    pub after : (T : Lists) → after (at e T) n act ≡ at c T
    pub ends : (s : State) → ending_by act s ≡ ending s
    pub reply : machine.done ≡ reply_to (frame_of e) act
    pub stored : IsStored c
    pub counts : (ss : List Subscription) (cs : List RoleCircuit) (s : Subscription) (was now : ℕ) → is_some (place_of e s) ≡ true → may_read c s ≡ true → now ≡ cond (beside_of false c concerned s) 0 was
        → TurnsRounds (seen e) (seen (record c { subscriptions = ss; circuits = cs })) act (actor (frame_of e) s.session) s.rel was now

  module _ (n : ℕ) (act : Act) (concerned : List Bool) (g : IsRighting n act concerned) (h : IsSoundStore e) where
    module _ (T : Lists) (stands : Stands T e.tables) where
      abbrev still : Store
      still = record c { subscriptions = filter (stays_open c T) e.subscriptions }

      act_left : settled act (after (at e T) n act) ≡ at still T
      act_left = ap (settled act) (g.after T)
          ∙ (λ i. at (record c { subscriptions = filter (λ s. not (is_some (g.ends (at c T) i s))) e.subscriptions }) T)

      act_sent : sent e T n act ≡ flat_map (λ s. turned_line c T s (shown_rows e T s)) e.subscriptions
      act_sent = (λ i. changes act (at e T) (g.after T i) (settled act (g.after T i)))
          ∙ (λ i. flat_map (line_for (at e T) (at (record c { subscriptions = filter (λ s. not (is_some (g.ends (at c T) i s))) e.subscriptions }) T) (g.ends (at c T) i)) e.subscriptions)
          ∙ turned_lines e c h.stored.numbers.unique T T

      act_refusal : frame_refusal (frame_of e) n act ≡ None → refusal (at e T) n act ≡ None
      act_refusal passed = (λ i. or_else (passed i) (g.rows T i))

    -- the circuits show what was shown before
    all_showed : (T : Lists) → Stands T e.tables → AreShowed c (shown_rows e T)
    all_showed T stands = each_of (λ s. IfSome (place_of c s) (λ place. Counts (total_at c place) (shown_rows e T s))) e.subscriptions
        (λ s. IfSome-each (place_of c s) (λ place. Counts (total_at c place) (shown_rows e T s)) (λ i found. total_counts e h.circuits T stands s i found))

    -- its circuit was there, and it may still be read
    record WasThere (s : Subscription) : Type 0 where
      there : is_some (place_of e s) ≡ true
      reads : may_read c s ≡ true

    kept_there : (T : Lists) (ks : List Subscription) → ks ≡ filter (stays_open c T) e.subscriptions → AllByRecursion WasThere ks
    kept_there T ks is = subst (AllByRecursion WasThere) (sym is)
        (AllByRecursion-zip (λ s. is_some (place_of e s) ≡ true) (λ s. stays_open c T s ≡ true) WasThere (filter (stays_open c T) e.subscriptions)
        (λ s there stays. record { there = there; reads = not-first_cause (is_some (missing_for (frame_of c) (actor (frame_of c) s.session) s.rel)) (is_within (at c T) s) stays })
        (AllByRecursion-filter (λ s. is_some (place_of e s) ≡ true) (stays_open c T) e.subscriptions h.there)
        (AllByRecursion-filtered_pass (stays_open c T) e.subscriptions))

    pub righted_step : (new : Store) (a : Answer) → frame_refusal (frame_of e) n act ≡ None → AreReadersTold c concerned a new → IsAccepted e n act a new
    righted_step new a passed told =
        let ks = new.subscriptions in
        let cs = new.circuits in
        let left : (T : Lists) → Stands T e.tables → ks ≡ filter (stays_open c T) e.subscriptions = told.left in
        let sent : (T : Lists) → Stands T e.tables → map line_of a.changes.items ≡ flat_map (λ s. turned_line c T s (shown_rows e T s)) e.subscriptions = λ T stands.
        told.told T stands (shown_rows e T) (all_showed T stands) in
        let kept : IsSoundStore new = subst IsSoundStore (sym told.state) (left_sound c g.stored ks cs left told.circuits
        (subst (λ (v : Store). AllByRecursion (λ s. is_some (place_of v s) ≡ true) ks) told.state told.there)
        (subst (λ (v : Store). AllByRecursion (λ k. is_read (frame_of v) k ≡ true) cs) told.state told.read)) in
        let T = lists_behind e in
        let were : AllByRecursion (IsBeside e) ks = subst (AllByRecursion (IsBeside e)) (sym (left T (Stands-IsStored e h.stored))) (AllByRecursion-filter (IsBeside e) (stays_open c T) e.subscriptions (AllByRecursion-IsBeside e h.stored)) in
        let was_there : AllByRecursion WasThere ks = kept_there T ks (left T (Stands-IsStored e h.stored)) in
        let R : (v : Store) → Subscription → ℕ → ℕ → Type 0 = λ v s was now. TurnsRounds (seen e) (seen v) act (actor (frame_of v) s.session) s.rel was now in
        let counted : AllByRecursion (λ s. R new s (rounds_of e s) (rounds_of new s)) ks =
        AllByRecursion-zip WasThere (λ s. rounds_of new s ≡ cond (beside_of false c concerned s) 0 (rounds_of e s))
        (λ s. R new s (rounds_of e s) (rounds_of new s)) ks
        (λ s w r. subst (λ (v : Store). R v s (rounds_of e s) (rounds_of new s)) (sym told.state) (g.counts ks cs s (rounds_of e s) (rounds_of new s) w.there w.reads r)) was_there told.rounds in
        record {
          answer = λ T stands. (act_refusal T stands passed, ap reply_of told.done ∙ g.reply, sent T stands ∙ sym (act_sent T stands));
          left = λ T stands. subst (λ (t : State). IsBehind t (seen new)) (sym (act_left T stands))
              (subst (λ (v : Store). IsBehind (at (still T stands) T) (seen v)) (sym (told.state ∙ ap (λ (ss : List Subscription). record c { subscriptions = ss; circuits = cs }) (left T stands))) (record { frame = refl; rows = stands }));
          accepts = not_refused-Ok a.reply told.done;
          rounds = those_counted e new kept.stored (R new) were counted;
          sound = kept;
        }
