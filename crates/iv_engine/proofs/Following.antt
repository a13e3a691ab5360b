-- Circuits take in what writes changed of tables while nobody was there: the lines and what is left are those of the machine's step.
use Rattle.std.proofs.Common.{◌≡◌, ◌++◌, ℕ, Bool, true, false, cond, not, ◌&&◌, List, [], ◌∷◌, map, None, refl, sym, ap, subst, ◌∙◌, inl, inr}
use Rattle.std.specs.Global.{Vec}
use Rattle.std.specs.Prelude.{Ok as OkResult, filter, flat_map, is_some}
use Rattle.std.specs.List.{AllByRecursion, list_all}
use Rattle.iv_zset.specs.Limits.{copies}
use Rattle.iv_zset.specs.Weights.{weight_of}
use Rattle.iv_zset.proofs.Places.{weight_of-append}
use Rattle.iv_algebra.specs.Contents.{rows_of}
use Rattle.iv_algebra.specs.Plans.{Lists}
use Rattle.iv_bind.specs.Catalogs.{CatalogEntry, schema_of}
use Rattle.iv_circuit.specs.Changing.{Given}
use Rattle.iv_circuit.specs.Deltas.{change_in}
use Rattle.iv_machine.specs.Machine.{ending, first_cause}
use Rattle.iv_machine.specs.State.{State, Subscription, actor, is_within, missing_for, plan_at}
use Rattle.iv_steps.specs.Steps.{Fact}
use Rattle.iv_database.specs.Database.{HoldsKinds, relation_in}
use Rattle.iv_database.specs.Stands.{Stands}
use Rattle.iv_database.proofs.RowKinds.{HasKinds-Counts}
use Rattle.iv_store.specs.Answering.{moved_lines, seen}
use Rattle.iv_store.specs.Aside.{nobody_in, with_those_of}
use Rattle.iv_store.specs.Engine.{IsBehind}
use Rattle.iv_store.specs.Counting.{IsCounted}
use Rattle.iv_store.specs.Followed.{AreReady, HaveFollowed, IsSomeBroken}
use Rattle.iv_store.specs.Moved.{IsAfter, IsFollowed}
use Rattle.iv_store.specs.Rounds.{rounds_of}
use Rattle.iv_store.specs.Store.{IsOpen, IsRoleCircuit, IsSoundStore, IsStored, Store, at, frame_of, is_read, may_read, place_of, shown_rows}
use Rattle.iv_store.specs.Turned.{stays_open, turned_by, turned_line}
use Rattle.iv_readers.specs.Changes.{TookChange}
use Rattle.iv_readers.specs.Each.{Each}
use Rattle.iv_readers.specs.Readers.{is_for}
use Rattle.iv_command.specs.declared.command.Line.{Line}
use Rattle.iv_readers.proofs.Lists.{AllByRecursion-map, AllByRecursion-zip}
use Rattle.iv_store.proofs.SubscriptionRounds.{AllByRecursion-IsBeside, those_counted}
use Rattle.iv_store.proofs.Due.{all_ready, beyond_by}
use Rattle.iv_store.proofs.FilteredLists.{AllByRecursion-filtered_pass}
use Rattle.iv_store.proofs.ReplacedCircuits.{IsSameReader, place_same, AllByRecursion-IsSameReader, readers_same}
use Rattle.iv_store.proofs.WriteLines.{AreLinesAt, AllByRecursion-list_all, lines_are}
use Rattle.iv_store.proofs.SubscriptionViews.{lists_behind, Stands-IsStored}
use Rattle.iv_store.proofs.Touches.{as_many, more_rounds, rounds_taken}
use Rattle.iv_store.proofs.Unread.{place_found}
use Rattle.iv_engine.specs.Carried.{AreCarriedTo, IsStillEmpty, IsTakenIn}
use Rattle.iv_engine.specs.Stepped.{AreCountedOnce}
use Rattle.iv_engine.specs.Summed.{AreTold, AreWritten}
use Rattle.iv_engine.specs.declared.sums.Sums.{Sums}
use Rattle.iv_engine.proofs.Left.{within-first_cause}
use Rattle.iv_engine.proofs.Looking.{IsLooked, all_back, step_taken, taken_as}
use Rattle.iv_engine.proofs.WriteSteps.{all_taken, length-IsMadeOf, minus-of_sum}

-- why a subscription stays open
stays_by : (m w : Bool) → not m ≡ true → w ≡ true → first_cause m w ≡ None
stays_by true w a b = cc
stays_by false true a b = refl
stays_by false false a b = cc

module _ (e d : Store) (given : Given) (tables : List ℕ) (h : IsSoundStore e) (g : IsSoundStore d) (w : AreWritten e given tables d) where
  known : d.known ≡ e.known
  known = λ i. record { relations = (g.stored.database.relations ∙ ap (λ (es : List CatalogEntry). map relation_in es) w.catalog ∙ sym h.stored.database.relations) i; rights = w.rights i }

  -- the store as it was, with the tables of now
  abbrev pub v : Store
  v = record e { tables = d.tables }

  pub v_is : with_those_of e d ≡ v
  v_is = λ i. record e { cap = w.cap i; known = known i; catalog = w.catalog i; tables = d.tables }

  after_at : (T U : Lists) → Stands T e.tables → Stands U d.tables → IsAfter e given T U
  after_at T U s t = record {
    stands = s;
    moves = λ k q. minus-of_sum (weight_of (given k) q) (weight_of (rows_of e.tables k) q) (copies q (T k)) (copies q (U k)) (s k q)
        (sym (weight_of-append (given k) (rows_of e.tables k) q) ∙ sym (w.sums k q) ∙ t k q);
    kinds = λ k. HasKinds-Counts (schema_of e.catalog k) (rows_of d.tables k) (U k)
        (subst (λ (es : List CatalogEntry). HoldsKinds (schema_of es k) (rows_of d.tables k)) w.catalog (g.stored.database.kinds k)) (t k);
  }

  followed : IsFollowed e given
  followed = record { before = lists_behind e; after = lists_behind d; leads = after_at (lists_behind e) (lists_behind d) (Stands-IsStored e h.stored) (Stands-IsStored d g.stored) }

  -- changes may be prepared for the circuits
  pub ready_now : AreReady v given
  ready_now = all_ready e given h followed

  module _ (lines : List Line) (new : Store) (f : HaveFollowed v given lines new) where
    circuits : AllByRecursion (IsRoleCircuit v) new.circuits
    circuits = all_taken e given v (lists_behind e) (λ U t. after_at (lists_behind e) U (Stands-IsStored e h.stored) t) refl refl refl e.circuits f.prepared new.circuits h.circuits f.made f.circuits

    same : Each IsSameReader e.circuits new.circuits
    same = readers_same TookChange (λ k p n t. record { role = t.role; rel = t.rel }) e.circuits f.prepared new.circuits (length-IsMadeOf given e.circuits f.prepared f.made) f.circuits

    module _ (T U : Lists) (s : Stands T e.tables) (t : Stands U d.tables) where
      told : AreLinesAt e e.subscriptions f.prepared T U
      told = lines_are e given f.prepared h f.made T U (after_at T U s t)

      -- nothing ends a subscription
      stay : AllByRecursion (λ x. ending (at v U) x ≡ None) e.subscriptions
      stay = AllByRecursion-zip (λ x. may_read e x ≡ true) (λ x. is_within (at e U) x ≡ true) (λ x. ending (at v U) x ≡ None) e.subscriptions
          (λ x a b. stays_by (is_some (missing_for (frame_of e) (actor (frame_of e) x.session) x.rel)) (is_within (at e U) x) a b) h.served (AllByRecursion-list_all (is_within (at e U)) e.subscriptions told.within)

    module _ (U : Lists) where
      all_stay : (ss : List Subscription) → AllByRecursion (λ x. ending (at v U) x ≡ None) ss → filter (stays_open v U) ss ≡ ss
      all_stay [] a = refl
      all_stay (x ∷ ss) a = λ i. cond (not (is_some (a.0 i))) (x ∷ all_stay ss a.1 i) (all_stay ss a.1 i)

      lines_by : (T : Lists) (ss : List Subscription) → AllByRecursion (λ x. ending (at v U) x ≡ None) ss → flat_map (λ x. turned_line v U x (shown_rows e T x)) ss ≡ moved_lines e T U ss
      lines_by T [] a = refl
      lines_by T (x ∷ ss) a = λ i. turned_by (a.0 i) x (shown_rows e T x) (shown_rows v U x) ++ lines_by T ss a.1 i

    there : AllByRecursion (λ x. is_some (place_of (record v { circuits = new.circuits }) x) ≡ true) e.subscriptions
    there = AllByRecursion-map (λ x. is_some (place_of e x) ≡ true) (λ x. is_some (place_of (record v { circuits = new.circuits }) x) ≡ true) e.subscriptions
        (λ x p. ap (λ o. is_some o) (place_same (actor (frame_of e) x.session) x.rel e.circuits new.circuits same) ∙ p) h.there

    at_v : IsLooked e v lines new
    at_v = record {
      left = λ U t. ap (λ (x : Store). x.subscriptions) f.state ∙ sym (all_stay U e.subscriptions (stay (lists_behind e) U (Stands-IsStored e h.stored) t));
      told = λ T U s t. f.told ∙ (told T U s t).sent ∙ sym (lines_by U T e.subscriptions (stay T U s t));
      circuits = circuits;
      there = subst (λ (x : Store). AllByRecursion (λ y. is_some (place_of x y) ≡ true) x.subscriptions) (sym f.state) there;
      read = subst (λ (x : Store). AllByRecursion (λ k. is_read (frame_of x) k ≡ true) new.circuits) (sym f.state) (AllByRecursion-IsSameReader (frame_of e) e.circuits new.circuits same h.read);
      state = f.state ∙ ap (λ (ss : List Subscription). record v { subscriptions = ss; circuits = new.circuits }) (sym (ap (λ (x : Store). x.subscriptions) f.state));
    }

    pub now_looked : IsLooked e (with_those_of e d) lines new
    now_looked = subst (λ (x : Store). IsLooked e x lines new) (sym v_is) at_v

-- ---- rounds

module _ (e d : Store) (given : Given) (tables : List ℕ) (h : IsSoundStore e) (g : IsSoundStore d) (w : AreWritten e given tables d) (lines : List Line) (new : Store) (f : HaveFollowed (v e d given tables h g w) given lines new)
    (stored : IsStored (v e d given tables h g w)) where
  abbrev left : Store
  left = record e { circuits = new.circuits; tables = d.tables }

  left_stored : IsStored left
  left_stored = record {
    numbers = record { unique = stored.numbers.unique; given = stored.numbers.given };
    database = stored.database;
    shows = AllByRecursion-map (IsOpen (v e d given tables h g w)) (IsOpen left) e.subscriptions
        (λ s o. record { session = o.session; known = o.known }) stored.shows;
  }

  one_counted : (s : Subscription) → is_some (place_of e s) ≡ true → IsCounted (seen e) (seen left) s.rel (rounds_of e s) (rounds_of left s)
  one_counted s there =
      let role = actor (frame_of e) s.session in
      let moved = rounds_taken given e role s.rel s.number e.circuits f.prepared new.circuits h.circuits f.made f.circuits (place_found (is_for role s.rel) e.circuits there) in
      record {
        changed = more_rounds given w.zsets e.tables d.tables w.sums (plan_at e.catalog s.rel) (rounds_of e s) (rounds_of left s) moved;
        same = as_many given w.zsets e.tables d.tables w.sums (plan_at e.catalog s.rel) (rounds_of e s) (rounds_of left s) moved;
      }

  pub counted_once : AreCountedOnce (seen e) (seen new)
  counted_once = subst (λ (x : Store). AreCountedOnce (seen e) (seen x)) (sym f.state) (those_counted e left left_stored (λ s was now. IsCounted (seen e) (seen left) s.rel was now) (AllByRecursion-IsBeside e h.stored)
      (AllByRecursion-map (λ s. is_some (place_of e s) ≡ true) (λ s. IsCounted (seen e) (seen left) s.rel (rounds_of e s) (rounds_of left s)) e.subscriptions one_counted h.there))

-- ---- where a circuit could not follow somebody is ended

all_listed : (p : Subscription → Bool) (ss : List Subscription) → AllByRecursion (λ s. p s ≡ true) ss → list_all p ss ≡ true
all_listed p [] a = refl
all_listed p (s ∷ ss) a = λ i. a.0 i && all_listed p ss a.1 i

module _ (e d : Store) (given : Given) (tables : List ℕ) (h : IsSoundStore e) (g : IsSoundStore d) (w : AreWritten e given tables d) where
  clash : true ≡ false → ⊥
  clash q = cc

  pub somebody_ends : (new : Store) → ((U : Lists) → Stands U d.tables → new.subscriptions ≡ filter (stays_open (with_those_of e d) U) e.subscriptions) → IsSomeBroken (with_those_of e d) given
      → new.subscriptions ≡ e.subscriptions → ⊥
  somebody_ends new left broken same =
      let T = lists_behind e in
      let U = lists_behind d in
      let s = Stands-IsStored e h.stored in
      let t = Stands-IsStored d g.stored in
      let c = v e d given tables h g w in
      let all : e.subscriptions ≡ filter (stays_open c U) e.subscriptions = sym same ∙ left U t ∙ ap (λ (x : Store). filter (stays_open x U) e.subscriptions) (v_is e d given tables h g w) in
      let open_all : AllByRecursion (λ x. stays_open c U x ≡ true) e.subscriptions = subst (AllByRecursion (λ x. stays_open c U x ≡ true)) (sym all) (AllByRecursion-filtered_pass (stays_open c U) e.subscriptions) in
      let within : list_all (is_within (at e U)) e.subscriptions ≡ true = all_listed (is_within (at e U)) e.subscriptions (AllByRecursion-map (λ x. stays_open c U x ≡ true) (λ x. is_within (at e U) x ≡ true) e.subscriptions
      (λ x o. within-first_cause (is_some (missing_for (frame_of e) (actor (frame_of e) x.session) x.rel)) (is_within (at e U) x) o) open_all) in
      let beyond = beyond_by e given h [] None (record { place = broken.place; read = broken.read; broken = broken.broken }) T U (after_at e d given tables h g w T U s t) in
      clash (sym within ∙ beyond)

-- ---- the whole step

-- since who is there was set aside
pub since_aside : (e d : Store) (given : Given) (tables : List ℕ) → AreWritten (nobody_in e) given tables d → AreWritten e given tables d
since_aside e d given tables w = record { cap = w.cap; rights = w.rights; catalog = w.catalog; zsets = w.zsets; sums = w.sums; others = w.others }

module _ (e d : Store) (facts : List Fact) (h : IsSoundStore e) (carried : IsStillEmpty d × ((s : State) → IsBehind s (seen (nobody_in e)) → AreCarriedTo s facts d)) (s : Sums)
    (w : s.others ≡ false → AreWritten (nobody_in e) (change_in s.deltas) s.tables.items d) where
  since : s.others ≡ false → AreWritten e (change_in s.deltas) s.tables.items d
  since writes = since_aside e d (change_in s.deltas) s.tables.items (w writes)

  pub told_ready : s.others ≡ false → AreReady (with_those_of e d) (change_in s.deltas)
  told_ready writes = ready_now e d (change_in s.deltas) s.tables.items h carried.0.sound (since writes)

  pub told_taken : (lines : Vec Line) (new : Store) → AreTold (with_those_of e d) s lines.items new → IsTakenIn e facts (OkResult lines) new
  told_taken lines new (inl looked) = step_taken e d facts h carried lines new looked.readers
  told_taken lines new (inr f) =
      let x = since f.0 in
      taken_as e d facts h carried lines new (now_looked e d (change_in s.deltas) s.tables.items h carried.0.sound x lines.items new
      (subst (λ (y : Store). HaveFollowed y (change_in s.deltas) lines.items new) (v_is e d (change_in s.deltas) s.tables.items h carried.0.sound x) f.1))

  pub told_once : (lines : List Line) (new : Store) → AreTold (with_those_of e d) s lines new → s.others ≡ false → new.subscriptions ≡ e.subscriptions → AreCountedOnce (seen e) (seen new)
  told_once lines new (inl looked) writes stay = absurd (somebody_ends e d (change_in s.deltas) s.tables.items h carried.0.sound (since writes) new looked.readers.left (looked.why writes) stay)
  told_once lines new (inr f) writes _ =
      let given = change_in s.deltas in
      let x = since writes in
      let is = v_is e d given s.tables.items h carried.0.sound x in
      counted_once e d given s.tables.items h carried.0.sound x lines new (subst (λ (y : Store). HaveFollowed y given lines new) is f.1) (subst IsStored is (all_back e d facts h carried).stored)
