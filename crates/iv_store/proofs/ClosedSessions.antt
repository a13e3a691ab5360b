-- Closing sessions and subscriptions: nothing is sent, and what is left shows what it showed.
use Rattle.std.proofs.Common.{◌≡◌, ℕ, ◌<◌, Bool, true, false, cond, not, List, [], ◌∷◌, length, map, Option, None, Some, refl, sym, ap, subst, ◌∙◌, arith}
use Rattle.std.proofs.lemmas.Bool.Decides.{nat_tests}
use Rattle.std.specs.Prelude.{◌==◌, filter, flat_map, is_some, option_map, position}
use Rattle.std.specs.Global.{Vec}
use Rattle.std.specs.List.{AllByRecursion}
use Rattle.iv_algebra.specs.Plans.{Lists}
use Rattle.iv_rows.specs.Options.{if_some}
use Rattle.iv_roles.specs.declared.role.RoleId.{RoleId}
use Rattle.iv_machine.specs.Act as machine
use Rattle.iv_machine.specs.Act.{finish, unsubscribe}
use Rattle.iv_machine.specs.Machine.{difference, ending, line_for, lines_told as machine_line}
use Rattle.iv_machine.specs.Refusing.{has_subscription, or_else, test}
use Rattle.iv_machine.specs.State.{Session, State, Subscription, is_open, session_of, shown, subscription_of, view_shown}
use Rattle.iv_machine.proofs.SubscriptionPlaces.{all_kept}
use Rattle.iv_machine.proofs.UniqueNumbers.{AreGiven-filter, AreUnique-filter}
use Rattle.iv_store.specs.Answering.{IsAccepted, seen}
use Rattle.iv_store.specs.Counting.{AreCounted}
use Rattle.iv_store.specs.Finished.{without_session, without_subscription, without_unread}
use Rattle.iv_database.proofs.StoredFacts.{sessions_stored}
use Rattle.iv_store.specs.Store.{database_of, IsOpen, IsRoleCircuit, IsSoundStore, IsWithin, Store, at, frame_of, may_read, place_of}
use Rattle.iv_readers.specs.Readers.{is_for}
use Rattle.iv_store.specs.Rounds.{beside_number, rounds, rounds_of}
use Rattle.iv_store.specs.Engine.{IsBehind}
use Rattle.iv_database.specs.Stands.{Stands}
use Rattle.iv_command.specs.Views.{line_of}
use Rattle.iv_command.specs.declared.command.Line.{Line}
use Rattle.iv_command.specs.declared.command.Reply.TheVariants.{Ok}
use Rattle.iv_store.proofs.SubscriptionRounds.{IsBeside, AllByRecursion-IsBeside, rounds_of-without_unread, rounds_of-same_circuits, those_counted}
use Rattle.iv_store.proofs.DroppedCircuits.{left_have, left_read, left_there}
use Rattle.iv_store.proofs.SubscriptionViews.{difference-itself, subscription_of-each}
use Rattle.iv_readers.proofs.Lists.{AllByRecursion-zip}
use Rattle.iv_store.proofs.Sound.{circuits_stay}
use Rattle.iv_store.proofs.RequestSteps.{flat_map-each_nothing, not_refused-Ok, ending-Stands, filter-Stands}
use Rattle.iv_store.proofs.UnmovedSubscriptions.{IsUnmoved, IsUnmoved-same_session, still_read, still_shown, still_within}

-- ---- what is left of the subscriptions, whose sessions are as before

module _ (e : Store) (h : IsSoundStore e) (ss : List Session) (p : Subscription → Bool) (roles : AllByRecursion (λ s. s.role < length e.known.rights.roles) ss)
    (same : (s : Subscription) → p s ≡ true → session_of ss s.session ≡ session_of e.sessions s.session) where
  -- before circuits are dropped, and afterwards
  abbrev b : Store
  b = record e { sessions = ss; subscriptions = filter p e.subscriptions }

  abbrev c : Store
  c = without_unread b

  unmoved : (s : Subscription) → p s ≡ true → IsUnmoved e c s
  unmoved s k = IsUnmoved-same_session e ss (filter p e.subscriptions) c.circuits s (same s k)

  -- what each that is left had
  left : (P Q : Subscription → Type 0) → ((s : Subscription) → p s ≡ true → P s → Q s) → AllByRecursion P e.subscriptions → AllByRecursion Q (filter p e.subscriptions)
  left P Q go a = all_kept P Q p go e.subscriptions a

  all_unmoved : AllByRecursion (IsUnmoved e c) (filter p e.subscriptions)
  all_unmoved = left (IsOpen e) (IsUnmoved e c) (λ s k o. unmoved s k) h.stored.shows

  all_open : AllByRecursion (IsOpen b) (filter p e.subscriptions)
  all_open = left (IsOpen e) (IsOpen b) (λ s k o. record { session = ap (λ (x : Option Session). is_some x) (same s k) ∙ o.session; known = o.known }) h.stored.shows

  all_there : AllByRecursion (λ s. is_some (place_of b s) ≡ true) (filter p e.subscriptions)
  all_there = left (λ s. is_some (place_of e s) ≡ true) (λ s. is_some (place_of b s) ≡ true) (λ s k t. (λ i. is_some (position (is_for ((unmoved s k).acts i) s.rel) e.circuits)) ∙ t) h.there

  pub left_sound : IsSoundStore c
  left_sound = record {
    stored = record {
      numbers = record { unique = AreUnique-filter p e.subscriptions h.stored.numbers.unique; given = AreGiven-filter e.last p e.subscriptions h.stored.numbers.given };
      database = sessions_stored (database_of e) h.stored.database c.sessions roles;
      shows = left (IsOpen e) (IsOpen c) (λ s k o. record { session = ap (λ (x : Option Session). is_some x) (same s k) ∙ o.session; known = o.known }) h.stored.shows;
    };
    served = left (λ s. may_read e s ≡ true) (λ s. may_read c s ≡ true) (λ s k r. still_read e c s (unmoved s k) r) h.served;
    within = left (IsWithin e) (IsWithin c) (λ s k w T y. still_within e c s (unmoved s k) T y ∙ w T y) h.within;
    circuits = circuits_stay e c (λ T y. y) all_unmoved c.circuits (left_have b (IsRoleCircuit e) h.circuits) (left_read b (IsRoleCircuit e) h.circuits);
    there = left_there b all_open all_there;
    read = left_read b (IsRoleCircuit e) h.circuits;
  }

  -- and each has the rounds that it had
  pub left_counted : AllByRecursion (λ s. beside_number s.number (rounds c) ≡ beside_number s.number (rounds e)) (filter p e.subscriptions)
  left_counted = those_counted e c left_sound.stored (λ s was now. now ≡ was) (left (IsBeside e) (IsBeside e) (λ s k b. b) (AllByRecursion-IsBeside e h.stored))
      (AllByRecursion-zip (λ s. rounds_of c s ≡ rounds_of b s) (IsUnmoved e c) (λ s. rounds_of c s ≡ rounds_of e s) (filter p e.subscriptions) (λ s k u. k ∙ rounds_of-same_circuits e b s refl u.acts) (rounds_of-without_unread b all_open) all_unmoved)

  module _ (T : Lists) (stands : Stands T e.tables) where
    -- each that is left is found before and now
    abbrev IsLeft : Subscription → Type 0
    IsLeft s = (p s ≡ true) × (subscription_of e.subscriptions s.number ≡ Some s)

    each_left : AllByRecursion IsLeft (filter p e.subscriptions)
    each_left =
        left (λ s. subscription_of e.subscriptions s.number ≡ Some s) IsLeft (λ s k f. (k, f)) (subscription_of-each e.subscriptions h.stored.numbers.unique)

    still : (s : Subscription) → IsLeft s → subscription_of (filter p e.subscriptions) s.number ≡ Some s → shown (at c T) s.number ≡ shown (at e T) s.number
    still s x f = ap (λ o. if_some o [] (view_shown (at c T))) f ∙ still_shown e c s (unmoved s x.0) T stands ∙ sym (ap (λ o. if_some o [] (view_shown (at e T))) x.1)

    quiet : (s : Subscription) → shown (at c T) s.number ≡ shown (at e T) s.number → ending (at c T) s ≡ None → line_for (at e T) (at c T) (ending (at c T)) s ≡ []
    quiet s v k = (λ i. machine_line (k i) s (difference (shown (at e T) s.number) (v i))) ∙ ap (machine_line None s) (difference-itself (shown (at e T) s.number))

    still_each : AllByRecursion (λ s. shown (at c T) s.number ≡ shown (at e T) s.number) (filter p e.subscriptions)
    still_each = AllByRecursion-zip IsLeft (λ s. subscription_of (filter p e.subscriptions) s.number ≡ Some s) (λ s. shown (at c T) s.number ≡ shown (at e T) s.number) (filter p e.subscriptions) still each_left (subscription_of-each (filter p e.subscriptions) left_sound.stored.numbers.unique)

    pub left_quiet : flat_map (line_for (at e T) (at c T) (ending (at c T))) (filter p e.subscriptions) ≡ []
    left_quiet = flat_map-each_nothing (line_for (at e T) (at c T) (ending (at c T))) (filter p e.subscriptions)
        (AllByRecursion-zip (λ s. shown (at c T) s.number ≡ shown (at e T) s.number) (λ s. ending (at c T) s ≡ None) (λ s. line_for (at e T) (at c T) (ending (at c T)) s ≡ []) (filter p e.subscriptions) quiet still_each (ending-Stands c T left_sound stands))

    abbrev at_left : List Subscription → State
    at_left subs = at (record c { subscriptions = subs }) T

    pub left_sent : flat_map (line_for (at e T) (at_left (filter (λ s. not (is_some (ending (at c T) s))) (filter p e.subscriptions))) (ending (at c T))) (filter p e.subscriptions) ≡ []
    left_sent = ap (λ subs. flat_map (line_for (at e T) (at_left subs) (ending (at c T))) (filter p e.subscriptions)) (filter-Stands c T left_sound stands) ∙ left_quiet

    pub left_settled : at_left (filter (λ s. not (is_some (ending (at c T) s))) (filter p e.subscriptions)) ≡ at c T
    left_settled = ap at_left (filter-Stands c T left_sound stands)

-- ---- a session

stays : (b : Bool) → not b ≡ true → b ≡ false
stays true h = cc
stays false h = refl

-- the others are found as before
others_stay : (ss : List Session) (n k : ℕ) → (n == k) ≡ false → session_of (filter (λ s. not (n == s.number)) ss) k ≡ session_of ss k
others_stay [] n k h = refl
others_stay (s ∷ ss) n k h = by (n == s.number) refl (others_stay ss n k h)
  where
    by : (b : Bool) → (n == s.number) ≡ b → session_of (filter (λ x. not (n == x.number)) ss) k ≡ session_of ss k
        → session_of (cond (not b) (s ∷ filter (λ x. not (n == x.number)) ss) (filter (λ x. not (n == x.number)) ss)) k ≡ cond (k == s.number) (Some s) (session_of ss k)
    by true is go = go ∙ ap (λ b. cond b (Some s) (session_of ss k)) (sym (apart k n s.number is h))
      where
        apart : (k n m : ℕ) → (n == m) ≡ true → (n == k) ≡ false → (k == m) ≡ false
        apart k n m is h = grind (arith, nat_tests)
    by false is go = ap (λ o. cond (k == s.number) (Some s) o) go

module _ (e new : Store) (n : ℕ) (lines : Vec Line) (h : IsSoundStore e) (none : lines.items ≡ []) (opened : is_open (frame_of e) n ≡ true) where
  pub finished_step : new ≡ without_unread (without_session n e) → IsAccepted e n finish (record { reply = Ok; changes = lines }) new
  finished_step k =
      let ss = filter (λ (s : Session). not (n == s.number)) e.sessions in
      let p = λ (s : Subscription). not (n == s.session) in
      let roles = all_kept (λ (s : Session). s.role < length e.known.rights.roles) (λ s. s.role < length e.known.rights.roles) (λ s. not (n == s.number)) (λ s b r. r) e.sessions h.stored.database.roles in
      let same = λ (s : Subscription) (x : p s ≡ true). others_stay e.sessions n s.session (stays (n == s.session) x) in
      record {
        answer = λ T s. (
          ap (λ b. or_else (or_else (test (not b) machine.no_session) None) None) opened,
          refl,
          ap (map line_of) none ∙ sym (left_sent e h ss p roles same T s),
        );
        left = λ T s. subst (λ (t : State). IsBehind t (seen new)) (sym (left_settled e h ss p roles same T s))
            (subst (λ (v : Store). IsBehind (at (without_unread (without_session n e)) T) (seen v)) (sym k) (record { frame = refl; rows = s }));
        accepts = not_refused-Ok Ok refl;
        rounds = subst (λ (v : Store). AreCounted (seen e) finish (seen v)) (sym k) (left_counted e h ss p roles same);
        sound = subst IsSoundStore (sym k) (left_sound e h ss p roles same);
      }

  -- ---- a subscription

  pub unsubscribed_step : (number : ℕ) → has_subscription (frame_of e) n number ≡ true → new ≡ without_unread (without_subscription number e) → IsAccepted e n (unsubscribe number) (record { reply = Ok; changes = lines }) new
  unsubscribed_step number has k =
      let p = λ (s : Subscription). not (number == s.number) in
      let same = λ (s : Subscription) (x : p s ≡ true). refl in
      record {
        answer = λ T s. (
          (λ i. or_else (or_else (test (not (opened i)) machine.no_session) (or_else (test (not (has i)) machine.unknown_subscription) None)) None),
          refl,
          ap (map line_of) none ∙ sym (left_sent e h e.sessions p h.stored.database.roles same T s),
        );
        left = λ T s. subst (λ (t : State). IsBehind t (seen new)) (sym (left_settled e h e.sessions p h.stored.database.roles same T s))
            (subst (λ (v : Store). IsBehind (at (without_unread (without_subscription number e)) T) (seen v)) (sym k) (record { frame = refl; rows = s }));
        accepts = not_refused-Ok Ok refl;
        rounds = subst (λ (v : Store). AreCounted (seen e) (unsubscribe number) (seen v)) (sym k) (left_counted e h e.sessions p h.stored.database.roles same);
        sound = subst IsSoundStore (sym k) (left_sound e h e.sessions p h.stored.database.roles same);
      }

-- ---- the tests

pub is_some-same_role : (o : Option RoleId) (s : Option Session) → option_map (λ r. r.0) o ≡ option_map (λ x. x.role) s → is_some o ≡ true → is_some s ≡ true
is_some-same_role None s h k = cc
is_some-same_role (Some r) None h k = cc
is_some-same_role (Some r) (Some s) h k = refl
