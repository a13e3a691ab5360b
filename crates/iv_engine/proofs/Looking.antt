-- Each reader is looked at behind facts: the lines and what is left are those of the machine's step.
use Rattle.std.proofs.Common.{◌≡◌, ℕ, ◌<◌, ◌≤◌, true, List, [], length, map, Option, None, Some, refl, sym, ap, subst, ◌∙◌, arith}
use Rattle.std.specs.Global.{Vec}
use Rattle.std.specs.Prelude.{IfSome, Ok as OkResult, Err, filter, flat_map, is_some, option_map, position, unwrap_or}
use Rattle.std.specs.List.{AllByRecursion}
use Rattle.iv_zset.specs.Limits.{Counts}
use Rattle.iv_algebra.specs.Plans.{Lists}
use Rattle.iv_machine.specs.State.{Frame, Session, State, Subscription, actor, session_of}
use Rattle.iv_steps.specs.Steps.{Fact, all_carried, among, looked_at, shared}
use Rattle.iv_steps.proofs.FactSteps.{Led-all_carried}
use Rattle.iv_database.proofs.StoredFacts.{sessions_stored}
use Rattle.iv_store.specs.Answering.{seen}
use Rattle.iv_store.specs.Aside.{AreBack, IsAsideOf, all_concerned, nobody_in, with_those_of}
use Rattle.iv_store.specs.declared.aside.Aside.{Aside}
use Rattle.iv_store.specs.Engine.{Engine, IsBehind}
use Rattle.iv_store.specs.Found.{total_at}
use Rattle.iv_store.specs.Store.{database_of, IsOpen, IsRoleCircuit, IsSoundStore, IsStored, Store, at, frame_of, is_read, place_of, shown_rows}
use Rattle.iv_store.specs.Turned.{AreReaders, AreShowed, WasShown, stays_open, turned_line}
use Rattle.iv_database.specs.Stands.{Stands}
use Rattle.iv_readers.specs.Readers.{is_for}
use Rattle.iv_command.specs.Views.{line_of}
use Rattle.iv_command.specs.declared.command.Line.{Line}
use Rattle.iv_command.specs.declared.command.Reply.TheVariants.{Ok}
use Rattle.iv_store.proofs.RelationCircuits.{bag_for}
use Rattle.iv_store.proofs.SubscriptionViews.{lists_behind}
use Rattle.iv_store.proofs.Totals.{total_counts}
use Rattle.iv_readers.proofs.Lists.{AllByRecursion-map, AllByRecursion-zip}
use Rattle.iv_engine.specs.Carried.{AreCarried, AreCarriedTo, IsEmpty, IsStillEmpty, IsTakenIn}
use Rattle.iv_engine.specs.Stepped.{IsTaken, RefusesStep}
use Rattle.iv_engine.specs.declared.facts.StepFault.{StepFault}
use Rattle.iv_engine.specs.declared.facts.StepFault.TheVariants.{Memory, Failed, Refused}
use Rattle.iv_engine.proofs.Carried.{at-IsBehind, IsBehind-lists_behind}
use Rattle.iv_engine.proofs.Left.{IfSome-each, left_sound, turned_lines}

-- who was there in the one store has been looked at in the other, where the subscriptions and circuits are the same
pub record IsLooked (e c : Store) (lines : List Line) (new : Store) : Type 0 where
  pub left : (U : Lists) → Stands U c.tables → new.subscriptions ≡ filter (stays_open c U) e.subscriptions
  pub told : (T U : Lists) → Stands T e.tables → Stands U c.tables → map line_of lines ≡ flat_map (λ s. turned_line c U s (shown_rows e T s)) e.subscriptions
  pub circuits : AllByRecursion (IsRoleCircuit c) new.circuits
  pub there : AllByRecursion (λ s. is_some (place_of new s) ≡ true) new.subscriptions
  pub read : AllByRecursion (λ k. is_read (frame_of new) k ≡ true) new.circuits
  pub state : new ≡ record c { subscriptions = new.subscriptions; circuits = new.circuits }

-- ---- those who were there, over other rights, relations and rows

module _ (e d : Store) (h : IsSoundStore e) (g : IsSoundStore d) (roles : length e.known.rights.roles ≤ length d.known.rights.roles) (relations : length e.catalog ≤ length d.catalog) where
  abbrev pub c : Store
  c = with_those_of e d

  at_most : (m n k : ℕ) → k < m → m ≤ n → k < n
  at_most m n k a b = omega arith

  back_stored : IsStored c
  back_stored = record {
    numbers = record { unique = h.stored.numbers.unique; given = h.stored.numbers.given };
    database = sessions_stored (database_of d) g.stored.database e.sessions
        (AllByRecursion-map (λ (s : Session). s.role < length e.known.rights.roles) (λ (s : Session). s.role < length d.known.rights.roles) e.sessions (λ s b. at_most _ _ s.role b roles) h.stored.database.roles);
    shows = AllByRecursion-map (IsOpen e) (IsOpen c) e.subscriptions
        (λ s o. record { session = o.session; known = at_most _ _ s.rel o.known relations }) h.stored.shows;
  }

  -- each acts for the role that it acted for
  acts_by : (n : ℕ) (o : Option Session) (x y : ℕ) → is_some o ≡ true → unwrap_or (option_map (λ (s : Session). s.role) o) x ≡ unwrap_or (option_map (λ (s : Session). s.role) o) y
  acts_by n None x y k = cc
  acts_by n (Some s) x y k = refl

  acts : (s : Subscription) → IsOpen e s → actor (frame_of c) s.session ≡ actor (frame_of e) s.session
  acts s o = acts_by s.session (session_of e.sessions s.session) (length d.known.rights.roles) (length e.known.rights.roles) o.session

  place_stays : (s : Subscription) → IsOpen e s → place_of c s ≡ place_of e s
  place_stays s o = ap (λ role. position (is_for role s.rel) e.circuits) (acts s o)

  pub are_back : AreBack c
  are_back = record {
    stored = back_stored;
    shown = AllByRecursion-map (IsRoleCircuit e) (WasShown c) e.circuits
        (λ k i. record { known = at_most _ _ k.rel i.known relations; bag = bag_for e k.role k.rel k.circuit i.is h.stored; opened = i.opened }) h.circuits;
    there = AllByRecursion-zip (IsOpen e) (λ s. is_some (place_of e s) ≡ true) (λ s. is_some (place_of c s) ≡ true) e.subscriptions (λ s o t. ap (λ p. is_some p) (place_stays s o) ∙ t) h.stored.shows h.there;
  }

  module _ (T : Lists) (stands : Stands T e.tables) where
    showed_by : (s : Subscription) → IsOpen e s → IfSome (place_of c s) (λ place. Counts (total_at c place) (shown_rows e T s))
    showed_by s o = subst (λ p. IfSome p (λ place. Counts (total_at e place) (shown_rows e T s))) (sym (place_stays s o))
        (IfSome-each (place_of e s) (λ place. Counts (total_at e place) (shown_rows e T s)) (λ i found. total_counts e h.circuits T stands s i found))

    pub all_showed : AreShowed c (shown_rows e T)
    all_showed = AllByRecursion-map (IsOpen e) (λ s. IfSome (place_of c s) (λ place. Counts (total_at c place) (shown_rows e T s))) e.subscriptions showed_by h.stored.shows

  -- ---- the lines

  lines_are : (T U : Lists) → (looked_at (at e T) (at c U)).lines ≡ flat_map (λ s. turned_line c U s (shown_rows e T s)) e.subscriptions
  lines_are T U = turned_lines e c h.stored.numbers.unique T U

  -- ---- what is left

  pub looked : (lines : List Line) (new : Store) → AreReaders c (all_concerned c) Ok lines new → IsLooked e c lines new
  looked lines new told = record {
    left = told.left;
    told = λ T U s t. told.told U t (shown_rows e T) (all_showed T s);
    circuits = told.circuits;
    there = told.there;
    read = told.read;
    state = told.state;
  }

  module _ (lines : List Line) (new : Store) (told : IsLooked e c lines new) where
    pub new_sound : IsSoundStore new
    new_sound = subst IsSoundStore (sym told.state) (left_sound c back_stored new.subscriptions new.circuits told.left told.circuits
        (subst (λ (v : Store). AllByRecursion (λ s. is_some (place_of v s) ≡ true) new.subscriptions) told.state told.there)
        (subst (λ (v : Store). AllByRecursion (λ k. is_read (frame_of v) k ≡ true) new.circuits) told.state told.read))

    module _ (facts : List Fact) (s t : State) (b : IsBehind s (seen e)) (carried : all_carried facts (shared s) ≡ Some t) (a : IsBehind t (seen d)) where
      now_is : among s t ≡ at c t.rows
      now_is = λ i. record { frame = record (a.frame i) { sessions = (b.frame i).sessions; subscriptions = (b.frame i).subscriptions; last = (b.frame i).last }; rows = t.rows }

      looked_is : looked_at s (among s t) ≡ looked_at (at e s.rows) (at c t.rows)
      looked_is = λ i. looked_at (sym (at-IsBehind s e b) i) (now_is i)

      new_behind : IsBehind (looked_at (at e s.rows) (at c t.rows)).state (seen new)
      new_behind = subst (λ (v : Store). IsBehind (at (record c { subscriptions = filter (stays_open c t.rows) e.subscriptions }) t.rows) (seen v))
          (sym (told.state ∙ ap (λ (ss : List Subscription). record c { subscriptions = ss; circuits = new.circuits }) (told.left t.rows a.rows))) (record { frame = refl; rows = a.rows })

      pub is_taken : IsTaken s facts (map line_of lines) (seen new)
      is_taken = record {
        outcome = looked_at (at e s.rows) (at c t.rows);
        is = ap (option_map (λ x. looked_at s (among s x))) carried ∙ ap Some looked_is;
        told = told.told s.rows t.rows b.rows a.rows ∙ sym (lines_are s.rows t.rows);
        left = new_behind;
      }

-- roles and relations only come
pub roles_come : (e d : Store) (facts : List Fact) (s t : State) → IsBehind s (seen e) → all_carried facts (shared s) ≡ Some t → IsBehind t (seen d) → length e.known.rights.roles ≤ length d.known.rights.roles
roles_come e d facts s t b carried a =
    let led = Led-all_carried facts s t carried in
    let more : length s.frame.rights.roles ≤ length led.now.frame.rights.roles = led.grows.roles in
    let old : length s.frame.rights.roles ≡ length e.known.rights.roles = ap (λ (f : Frame). length f.rights.roles) b.frame in
    let new : length t.frame.rights.roles ≡ length led.now.frame.rights.roles = ap (λ (x : State). length x.frame.rights.roles) led.is in
    let now : length t.frame.rights.roles ≡ length d.known.rights.roles = ap (λ (f : Frame). length f.rights.roles) a.frame in
    omega (arith, more, old, new, now)

pub relations_come : (e d : Store) (facts : List Fact) (s t : State) → IsBehind s (seen e) → all_carried facts (shared s) ≡ Some t → IsBehind t (seen d) → length e.catalog ≤ length d.catalog
relations_come e d facts s t b carried a =
    let led = Led-all_carried facts s t carried in
    let more : length s.frame.catalog ≤ length led.now.frame.catalog = led.grows.relations in
    let old : length s.frame.catalog ≡ length e.catalog = ap (λ (f : Frame). length f.catalog) b.frame in
    let new : length t.frame.catalog ≡ length led.now.frame.catalog = ap (λ (x : State). length x.frame.catalog) led.is in
    let now : length t.frame.catalog ≡ length d.catalog = ap (λ (f : Frame). length f.catalog) a.frame in
    omega (arith, more, old, new, now)

-- ---- the whole step

-- where nobody is in the store, the state is what is shared
behind_nobody : (s : State) (e : Store) → IsBehind s (seen e) → IsBehind (shared s) (seen (nobody_in e))
behind_nobody s e b = record { frame = (λ i. record (b.frame i) { sessions = []; subscriptions = []; last = 0 }); rows = b.rows }

pub IsEmpty-nobody_in : (e : Store) → IsEmpty (nobody_in e)
IsEmpty-nobody_in e = record { sessions = refl; subscriptions = refl; last = refl }

-- what was put back is what was there
pub with_those_of-IsAsideOf : (e d : Store) (a : Aside) → IsAsideOf e a → record d { sessions = a.sessions; subscriptions = a.subscriptions.items; circuits = a.circuits; last = a.last } ≡ with_those_of e d
with_those_of-IsAsideOf e d a h = λ i. record d { sessions = h.sessions i; subscriptions = h.subscriptions i; circuits = h.circuits i; last = h.last i }

module _ (e d : Store) (facts : List Fact) (h : IsSoundStore e) (carried : IsStillEmpty d × ((s : State) → IsBehind s (seen (nobody_in e)) → AreCarriedTo s facts d)) where
  from_shared : (s : State) → IsBehind s (seen e) → AreCarriedTo (shared s) facts d
  from_shared s b = carried.1 (shared s) (behind_nobody s e b)

  first_behind : IsBehind (at e (lists_behind e)) (seen e)
  first_behind = IsBehind-lists_behind e h

  roles : length e.known.rights.roles ≤ length d.known.rights.roles
  roles = let k = from_shared (at e (lists_behind e)) first_behind in roles_come e d facts (at e (lists_behind e)) k.state first_behind k.is k.behind

  relations : length e.catalog ≤ length d.catalog
  relations = let k = from_shared (at e (lists_behind e)) first_behind in relations_come e d facts (at e (lists_behind e)) k.state first_behind k.is k.behind

  pub all_back : AreBack (with_those_of e d)
  all_back = are_back e d h carried.0.sound roles relations

  pub taken_as : (lines : Vec Line) (new : Store) → IsLooked e (with_those_of e d) lines.items new → IsTakenIn e facts (OkResult lines) new
  taken_as lines new told = (
    new_sound e d h carried.0.sound roles relations lines.items new told,
    λ s b. let k = from_shared s b in is_taken e d h carried.0.sound roles relations lines.items new told facts s k.state b k.is k.behind,
  )

  pub step_taken : (lines : Vec Line) (new : Store) → AreReaders (with_those_of e d) (all_concerned (with_those_of e d)) Ok lines.items new → IsTakenIn e facts (OkResult lines) new
  step_taken lines new told = taken_as lines new (looked e d h carried.0.sound roles relations lines.items new told)

-- what stops a fact stops the step
pub IsTakenIn-AreCarried : (e d new : Store) (facts : List Fact) (fault : StepFault) → AreCarried (nobody_in e) facts (Err fault) d
    → IsTakenIn e facts (Err fault) new
IsTakenIn-AreCarried e d new facts Memory k = tt
IsTakenIn-AreCarried e d new facts Failed k = absurd k
IsTakenIn-AreCarried e d new facts (Refused n r) k = λ s b.
    let no = k (shared s) (behind_nobody s e b) in
    record { none = ap (option_map (λ t. looked_at s (among s t))) no.0; first = no.1 }

-- the engine that shows the store
pub RefusesStep-IsTakenIn : (e : Store) (old : Engine) (new : Store) (facts : List Fact) → ((s : State) → IsBehind s old → IsBehind s (seen e)) → (fault : StepFault) → IsTakenIn e facts (Err fault) new → RefusesStep old facts fault
RefusesStep-IsTakenIn e old new facts seen_by Memory k = tt
RefusesStep-IsTakenIn e old new facts seen_by Failed k = tt
RefusesStep-IsTakenIn e old new facts seen_by (Refused n r) k = λ s b. k s (seen_by s b)

pub not_Failed-IsTakenIn : (e new : Store) (facts : List Fact) (fault : StepFault) → IsTakenIn e facts (Err fault) new → fault ≡ Failed → ⊥
not_Failed-IsTakenIn e new facts Memory k is = cc
not_Failed-IsTakenIn e new facts Failed k is = k
not_Failed-IsTakenIn e new facts (Refused n r) k is = cc
