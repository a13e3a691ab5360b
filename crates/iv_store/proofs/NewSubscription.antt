-- A new subscription.
use Rattle.std.proofs.Common.{◌≡◌, ℕ, ◌+◌, ◌^◌, ◌<◌, ◌≤◌, Bool, true, false, cond, not, ◌&&◌, ◌||◌, List, [], ◌∷◌, ◌++◌, append-nil, length, map, get_or, Option, None, Some, IfSome, refl, sym, ap, subst, ◌∙◌, arith}
use Rattle.std.proofs.lemmas.Bool.Decides.{nat_tests}
use Rattle.std.specs.Prelude.{◌==◌, Err, count_by, is_some, flat_map, nat_lt, position}
use Rattle.std.specs.List.{AllByRecursion, list_any}
use Rattle.std.specs.Global.{Vec}
use Rattle.iv_zset.specs.Limits.{Counts}
use Rattle.iv_zset.specs.Weights.{Weighed}
use Rattle.iv_algebra.specs.Plans.{Lists}
use Rattle.iv_rows.specs.Options.{if_some}
use Rattle.iv_access.specs.Rights.{Name}
use Rattle.iv_circuit.specs.Circuits.{Running}
use Rattle.iv_circuit.specs.Nodes.{total_of}
use Rattle.iv_machine.specs.Act as machine
use Rattle.iv_machine.specs.Act.{subscribe}
use Rattle.iv_machine.specs.Refusing.{full, missing, refusal, or_else, test, rows_refusal}
use Rattle.iv_machine.specs.State.{State, Subscription, actor, is_within, is_within_for, missing_for, plan_at, rel_of, subscription_of, shown, view_shown}
use Rattle.iv_machine.specs.Changing.{after, insert_subscription}
use Rattle.iv_machine.specs.Machine.{changes, line_for, lines_told as machine_line, ending, settled, difference}
use Rattle.iv_machine.specs.Reached.{AreNumbersUnique}
use Rattle.iv_machine.proofs.UniqueNumbers.{AreNumbersUnique-after_frame, has_number-next}
use Rattle.iv_readers.specs.declared.ids.ReaderId.{ReaderId}
use Rattle.iv_store.specs.Answering.{IsAccepted, IsRefused, IsStep, seen, sent}
use Rattle.iv_readers.specs.Rows.{AreInOrder}
use Rattle.iv_store.specs.Built.{IsBeyond}
use Rattle.iv_store.specs.Counting.{AreCounted}
use Rattle.iv_readers.specs.Each.{Each}
use Rattle.iv_store.specs.Found.{total_at}
use Rattle.iv_readers.specs.Held.{HasComeTo, come_to}
use Rattle.iv_store.specs.Store.{Store, database_of, IsCircuitFor, IsOpen, IsRoleCircuit, IsSoundStore, IsWithin, at, frame_of, is_read, may_read, place_of, shown_rows}
use Rattle.iv_readers.specs.Readers.{RoleCircuit, WereOpened, is_for, opened_to, IsServed}
use Rattle.iv_database.specs.Database.{session_acts_as}
use Rattle.iv_database.specs.Target.{IsActingOn}
use Rattle.iv_store.specs.Openable.{AreFirstLines, HasReaderFor, IsTwin, IsNewFor, IsOpenable, MayOpen, with_subscription}
use Rattle.iv_store.specs.Rounds.{beside_number, rounds, rounds_of}
use Rattle.iv_store.specs.Engine.{IsBehind}
use Rattle.iv_database.specs.Stands.{Stands}
use Rattle.iv_command.specs.Views.{line_of, reply_of}
use Rattle.iv_command.specs.declared.command.Line.{Line}
use Rattle.iv_command.specs.declared.command.Refusal.TheVariants.{Limit}
use Rattle.iv_command.specs.declared.command.Reply.{Reply}
use Rattle.iv_command.specs.declared.stop.Stop.{Stop}
use Rattle.iv_command.specs.declared.stop.Stop.TheVariants.{Refused, Memory}
use Rattle.iv_readers.proofs.Positions.{position-push}
use Rattle.iv_store.proofs.Beside.{is_own, slice_get-of_get_or}
use Rattle.iv_store.proofs.RelationCircuits.{IsCircuitFor-other_readers, IsCircuitFor-Serves}
use Rattle.iv_store.proofs.SubscriptionRounds.{AllByRecursion-IsBeside, AllByRecursion-AreGiven, beside_number-next, now_counted, rounds_more}
use Rattle.iv_readers.proofs.RowLists.{Moves-from_none}
use Rattle.iv_store.proofs.OpenCircuit.{opened_have, opened_same, others_rounds, own_rounds}
use Rattle.iv_store.proofs.ReplacedCircuits.{IsSameReader, place_same, AllByRecursion-IsSameReader}
use Rattle.iv_store.proofs.SubscriptionViews.{difference-itself, shown_is}
use Rattle.iv_readers.proofs.Lists.{AllByRecursion-get_or, AllByRecursion-map, AllByRecursion-zip}
use Rattle.iv_store.proofs.RequestSteps.{IsShown, AllByRecursion-IsShown, flat_map-each_nothing, ending-Stands, filter-Stands, IsRefused-frame_refusal}
use Rattle.iv_store.proofs.Totals.{circuits_within, total_counts}
use Rattle.iv_store.proofs.Unread.{place_found, is_some-position_append, and-session_acts_as}

-- ---- what is kept

-- perhaps with a new circuit behind the others
abbrev pub with_more : Store → List RoleCircuit → Store
with_more e added = record e { circuits = e.circuits ++ added }

-- and with the subscription, which reads the circuit at the place
abbrev pub opened : Store → List RoleCircuit → (place : ℕ) → Subscription → Store
opened e added place s = with_subscription s place (with_more e added)

-- what one subscription passes, one passes after another is inserted; and where that passes one does
or_true : (b c : Bool) → c ≡ true → (b || c) ≡ true
or_true true c h = refl
or_true false c h = h

or_more : (b c d : Bool) → (b || c) ≡ true → (c ≡ true → d ≡ true) → (b || d) ≡ true
or_more true c d h go = refl
or_more false c d h go = go h

any_inserted : (t : Subscription → Bool) (s : Subscription) (es : List Subscription) → list_any t es ≡ true → list_any t (insert_subscription s es) ≡ true
any_inserted t s [] h = cc
any_inserted t s (f ∷ es) h = by (nat_lt s.session f.session) (any_inserted t s es)
  where
    by : (b : Bool) → (list_any t es ≡ true → list_any t (insert_subscription s es) ≡ true) → list_any t (cond b (s ∷ f ∷ es) (f ∷ insert_subscription s es)) ≡ true
    by true go = or_true (t s) (t f || list_any t es) h
    by false go = or_more (t f) (list_any t es) (list_any t (insert_subscription s es)) h go

own_inserted : (t : Subscription → Bool) (s : Subscription) (es : List Subscription) → t s ≡ true → list_any t (insert_subscription s es) ≡ true
own_inserted t s [] h = ap (λ b. b || false) h
own_inserted t s (f ∷ es) h = by (nat_lt s.session f.session) (own_inserted t s es h)
  where
    by : (b : Bool) → list_any t (insert_subscription s es) ≡ true → list_any t (cond b (s ∷ f ∷ es) (f ∷ insert_subscription s es)) ≡ true
    by true later = ap (λ b. b || (t f || list_any t es)) h
    by false later = or_true (t f) (list_any t (insert_subscription s es)) later

all_joined : (P : RoleCircuit → Type 0) (ks more : List RoleCircuit) → AllByRecursion P ks → AllByRecursion P more → AllByRecursion P (ks ++ more)
all_joined P [] more a b = b
all_joined P (k ∷ ks) more a b = (a.0, all_joined P ks more a.1 b)

all_inserted : (P : Subscription → Type 0) (s : Subscription) (es : List Subscription) → P s → AllByRecursion P es → AllByRecursion P (insert_subscription s es)
all_inserted P s [] p a = (p, tt)
all_inserted P s (f ∷ es) p a = by (nat_lt s.session f.session) (all_inserted P s es p a.1)
  where
    by : (b : Bool) → AllByRecursion P (insert_subscription s es) → AllByRecursion P (cond b (s ∷ f ∷ es) (f ∷ insert_subscription s es))
    by true r = (p, a)
    by false r = (a.0, r)

all_uninserted : (P : Subscription → Type 0) (s : Subscription) (es : List Subscription) → AllByRecursion P (insert_subscription s es) → P s × AllByRecursion P es
all_uninserted P s [] a = (a.0, tt)
all_uninserted P s (f ∷ es) a = by (nat_lt s.session f.session) (all_uninserted P s es) a
  where
    by : (b : Bool) → (AllByRecursion P (insert_subscription s es) → P s × AllByRecursion P es) → AllByRecursion P (cond b (s ∷ f ∷ es) (f ∷ insert_subscription s es)) → P s × AllByRecursion P (f ∷ es)
    by true go r = (r.0, r.1)
    by false go r = let x = go r.1 in (x.0, (r.0, x.1))

placed_lines : (b : Bool) (g : Subscription → List machine.Line) (e f : Subscription) (fs gs : List Subscription) → g f ≡ [] → flat_map g fs ≡ [] → flat_map g gs ≡ g e → flat_map g (cond b (e ∷ f ∷ fs) (f ∷ gs)) ≡ g e
placed_lines true g e f fs gs h k l = (λ j. g e ++ (h j ++ k j)) ∙ append-nil (g e)
placed_lines false g e f fs gs h k l = λ j. h j ++ l j

inserted_lines : (g : Subscription → List machine.Line) (e : Subscription) (fs : List Subscription) → AllByRecursion (λ f. g f ≡ []) fs → flat_map g (insert_subscription e fs) ≡ g e
inserted_lines g e [] h = append-nil (g e)
inserted_lines g e (f ∷ fs) h = placed_lines (nat_lt e.session f.session) g e f fs (insert_subscription e fs) h.0 (flat_map-each_nothing g fs h.1) (inserted_lines g e fs h.1)

not_found : (k : ℕ) (es : List Subscription) → list_any (λ f. k == f.number) es ≡ false → subscription_of es k ≡ None
not_found k [] n = refl
not_found k (f ∷ es) n = by (k == f.number) (not_found k es) n
  where
    by : (b : Bool) → (list_any (λ f. k == f.number) es ≡ false → subscription_of es k ≡ None) → (b || list_any (λ f. k == f.number) es) ≡ false → cond b (Some f) (subscription_of es k) ≡ None
    by true go h = cc
    by false go h = go h

-- a circuit that a role has come to, and that was not opened, was not opened at more rounds than it has
unopened : (k : RoleCircuit) → k.since ≡ k.circuit.rounds → k.opened ≡ [] → WereOpened k
unopened k came h = record { came = omega (arith, came); each = subst (AllByRecursion (λ (x : ℕ × ℕ). x.1 ≤ k.circuit.rounds)) (sym h) tt }

self_le : (r : ℕ) → r ≤ r
self_le r = omega arith

below_next : (m last : ℕ) → m ≤ last → (m == last + 1) ≡ false
below_next m last h = grind (arith, nat_tests)

abbrev pub asked : Store → ℕ → ℕ → Subscription
asked e n k = record { session = n; number = e.last + 1; rel = k }

-- the test that looks at rows
module _ (e : Store) (n k : ℕ) (name : Name) (x : IsOpenable e n name k) (T : Lists) where
  rows_test : refusal (at e T) n (subscribe name) ≡ test (not (is_within (at e T) (asked e n k))) machine.limit
  rows_test = (λ i. or_else (x.passed i) (rows_refusal (at e T) n (subscribe name)))
      ∙ ap (λ j. test (not (is_within_for (at e T) (actor (frame_of e) n) j)) machine.limit) x.number

  pub beyond : is_within (at e T) (asked e n k) ≡ false → refusal (at e T) n (subscribe name) ≡ Some machine.limit
  beyond w = rows_test ∙ ap (λ b. test (not b) machine.limit) w

  pub decided : is_within (at e T) (asked e n k) ≡ true → refusal (at e T) n (subscribe name) ≡ None
  decided w = rows_test ∙ ap (λ b. test (not b) machine.limit) w

module _ (e : Store) (n k : ℕ) (name : Name) (h : IsSoundStore e) (x : IsOpenable e n name k) (fits : IsWithin e (asked e n k))
    (added : List RoleCircuit) (are : AllByRecursion (IsNewFor e (actor (frame_of e) n) k) added) (place : ℕ) (first : position (is_for (actor (frame_of e) n) k) (e.circuits ++ added) ≡ Some place) where
  abbrev s : Subscription
  s = asked e n k

  abbrev new : Store
  new = opened e added place s

  numbers : AreNumbersUnique (frame_of new)
  numbers = subst (λ j. AreNumbersUnique (frame_of (opened e added place (asked e n j)))) x.number
      (let r = AreNumbersUnique-after_frame (frame_of e) n (subscribe name) h.stored.numbers in record { unique = r.unique; given = r.given })

  -- ---- its circuits

  still : (c : RoleCircuit) → IsRoleCircuit e c → IsRoleCircuit new c
  still c i = record { known = i.known; is = IsCircuitFor-other_readers e new.subscriptions new.circuits new.last c.role (plan_at e.catalog c.rel) c.circuit i.is; opened = i.opened }

  fresh : (c : RoleCircuit) → IsNewFor e (actor (frame_of e) n) k c → IsRoleCircuit new c
  fresh c i = still c (record {
    known = subst (λ rel. rel < length e.catalog) (sym i.shows) x.below;
    is = subst (λ rel. IsCircuitFor e c.role (plan_at e.catalog rel) c.circuit) (sym i.shows) (subst (λ role. IsCircuitFor e role (plan_at e.catalog k) c.circuit) (sym i.acts) i.is);
    opened = unopened c i.came i.opened;
  })

  old_read : (c : RoleCircuit) → is_read (frame_of e) c ≡ true → is_read (frame_of new) c ≡ true
  old_read c r = any_inserted (λ y. (y.rel == c.rel) && session_acts_as (frame_of e) y.session c.role) s e.subscriptions r

  new_read : (c : RoleCircuit) → IsNewFor e (actor (frame_of e) n) k c → is_read (frame_of new) c ≡ true
  new_read c i = own_inserted (λ y. (y.rel == c.rel) && session_acts_as (frame_of e) y.session c.role) s e.subscriptions (and-session_acts_as (frame_of e) s c x.opened i.acts i.shows)

  opens : (c : RoleCircuit) → IsRoleCircuit new c → IsRoleCircuit new (opened_to s.number c)
  opens c i = record { known = i.known; is = i.is; opened = record { came = i.opened.came; each = (self_le c.circuit.rounds, i.opened.each) } }

  readers : Each IsSameReader (e.circuits ++ added) new.circuits
  readers = opened_same s.number place (e.circuits ++ added)

  old_place : (y : Subscription) → is_some (place_of e y) ≡ true → is_some (place_of new y) ≡ true
  old_place y t = ap (λ (o : Option ℕ). is_some o) (place_same (actor (frame_of e) y.session) y.rel (e.circuits ++ added) new.circuits readers)
      ∙ is_some-position_append (is_for (actor (frame_of e) y.session) y.rel) e.circuits added t

  new_place : is_some (place_of new s) ≡ true
  new_place = ap (λ (o : Option ℕ). is_some o) (place_same (actor (frame_of e) n) k (e.circuits ++ added) new.circuits readers ∙ first)

  pub opened_sound : IsSoundStore new
  opened_sound = record {
    stored = record {
      numbers = numbers;
      database = h.stored.database;
      shows = all_inserted (IsOpen new) s e.subscriptions (record { session = x.opened; known = x.below }) (AllByRecursion-map (IsOpen e) (IsOpen new) e.subscriptions (λ y o. record { session = o.session; known = o.known }) h.stored.shows);
    };
    served = all_inserted (λ y. may_read new y ≡ true) s e.subscriptions (ap (λ o. not (is_some o)) x.reads) (AllByRecursion-map (λ y. may_read e y ≡ true) (λ y. may_read new y ≡ true) e.subscriptions (λ y r. r) h.served);
    within = all_inserted (IsWithin new) s e.subscriptions fits (AllByRecursion-map (IsWithin e) (IsWithin new) e.subscriptions (λ y w. w) h.within);
    circuits = opened_have s.number (IsRoleCircuit new) opens place (e.circuits ++ added)
        (all_joined (IsRoleCircuit new) e.circuits added (AllByRecursion-map (IsRoleCircuit e) (IsRoleCircuit new) e.circuits still h.circuits) (AllByRecursion-map (IsNewFor e (actor (frame_of e) n) k) (IsRoleCircuit new) added fresh are));
    there = all_inserted (λ y. is_some (place_of new y) ≡ true) s e.subscriptions new_place
        (AllByRecursion-map (λ y. is_some (place_of e y) ≡ true) (λ y. is_some (place_of new y) ≡ true) e.subscriptions old_place h.there);
    read =
        AllByRecursion-IsSameReader (frame_of new) (e.circuits ++ added) new.circuits readers (all_joined (λ c. is_read (frame_of new) c ≡ true) e.circuits added
        (AllByRecursion-map (λ c. is_read (frame_of e) c ≡ true) (λ c. is_read (frame_of new) c ≡ true) e.circuits old_read h.read)
        (AllByRecursion-map (IsNewFor e (actor (frame_of e) n) k) (λ c. is_read (frame_of new) c ≡ true) added new_read are));
  }

  -- ---- its rounds, and those of the others

  abbrev role_of : Subscription → ℕ
  role_of y = actor (frame_of e) y.session

  -- a subscription that was open, by a number that was given, has a circuit
  record WasOpen (y : Subscription) : Type 0 where
    beside : beside_number y.number (rounds e) ≡ rounds_of e y
    given : y.number ≤ e.last
    there : is_some (place_of e y) ≡ true

  were_open : AllByRecursion WasOpen e.subscriptions
  were_open = AllByRecursion-zip (λ y. is_some (place_of e y) ≡ true) (λ y. (beside_number y.number (rounds e) ≡ rounds_of e y) × (y.number ≤ e.last)) WasOpen e.subscriptions
      (λ y t b. record { beside = b.0; given = b.1; there = t }) h.there
      (AllByRecursion-zip (λ y. beside_number y.number (rounds e) ≡ rounds_of e y) (λ y. y.number ≤ e.last) (λ y. (beside_number y.number (rounds e) ≡ rounds_of e y) × (y.number ≤ e.last)) e.subscriptions
      (λ y b g. (b, g)) (AllByRecursion-IsBeside e h.stored) (AllByRecursion-AreGiven e.last e.subscriptions h.stored.numbers.given))

  old_rounds : (y : Subscription) → WasOpen y → rounds_of new y ≡ beside_number y.number (rounds e)
  old_rounds y o = others_rounds s.number (role_of y) y.rel y.number (below_next y.number e.last o.given) place (e.circuits ++ added)
      ∙ rounds_more (role_of y) y.rel y.number e.circuits added (place_found (is_for (role_of y) y.rel) e.circuits o.there)
      ∙ sym o.beside

  new_rounds : rounds_of new s ≡ beside_number s.number (rounds e)
  new_rounds = own_rounds s.number (actor (frame_of e) n) k (e.circuits ++ added) place first ∙ sym (beside_number-next e)

  pub opened_counted : AreCounted (seen e) (subscribe name) (seen new)
  opened_counted = now_counted e new opened_sound.stored (λ y was now. now ≡ was) (all_inserted (λ y. rounds_of new y ≡ beside_number y.number (rounds e)) s e.subscriptions new_rounds
      (AllByRecursion-map WasOpen (λ y. rounds_of new y ≡ beside_number y.number (rounds e)) e.subscriptions old_rounds were_open))

  module _ (T : Lists) (stands : Stands T e.tables) where
    after_is : after (at e T) n (subscribe name) ≡ at new T
    after_is = ap (λ j. at (opened e added place (asked e n j)) T) x.number

    abbrev P : Subscription → Type 0
    P y = IsShown new y × (ending (at new T) y ≡ None)

    before : shown (at e T) (e.last + 1) ≡ []
    before = ap (λ o. if_some o [] (view_shown (at e T))) (not_found (e.last + 1) e.subscriptions (has_number-next e.last e.subscriptions h.stored.numbers.given))

    pub opened_left : settled (subscribe name) (after (at e T) n (subscribe name)) ≡ at new T
    opened_left = ap (settled (subscribe name)) after_is ∙ ap (λ ss. at (record new { subscriptions = ss }) T) (filter-Stands new T opened_sound stands)

    -- what was open before gets no line
    old_line : (y : Subscription) → IsShown e y → IsShown new y → ending (at new T) y ≡ None → line_for (at e T) (at new T) (ending (at new T)) y ≡ []
    old_line y a b c = (λ i. machine_line (c i) y (difference (shown_is e T y a.found i) (shown_is new T y b.found i)))
        ∙ ap (machine_line None y) (difference-itself (shown_rows e T y))

    new_shown : P s × AllByRecursion P e.subscriptions
    new_shown = all_uninserted P s e.subscriptions
        (AllByRecursion-zip (IsShown new) (λ y. ending (at new T) y ≡ None) P new.subscriptions (λ y a b. (a, b)) (AllByRecursion-IsShown new opened_sound.stored) (ending-Stands new T opened_sound stands))

    old_lines : AllByRecursion (λ y. line_for (at e T) (at new T) (ending (at new T)) y ≡ []) e.subscriptions
    old_lines = AllByRecursion-zip (IsShown e) P (λ y. line_for (at e T) (at new T) (ending (at new T)) y ≡ []) e.subscriptions (λ y a b. old_line y a b.0 b.1) (AllByRecursion-IsShown e h.stored) new_shown.1

    -- and the new one its rows
    new_line : line_for (at e T) (at new T) (ending (at new T)) s ≡ machine_line None s (difference [] (shown_rows e T s))
    new_line = (λ i. machine_line (new_shown.0.1 i) s (difference (before i) (shown_is new T s new_shown.0.0.found i)))

    pub opened_sent : sent e T n (subscribe name) ≡ machine_line None s (difference [] (shown_rows e T s))
    opened_sent = (λ i. changes (subscribe name) (at e T) (after_is i) (settled (subscribe name) (after_is i)))
        ∙ ap (λ ss. flat_map (line_for (at e T) (at (record new { subscriptions = ss }) T) (ending (at new T))) new.subscriptions) (filter-Stands new T opened_sound stands)
        ∙ inserted_lines (line_for (at e T) (at new T) (ending (at new T))) s e.subscriptions old_lines
        ∙ new_line

subscribed_no_refusal : (k : ℕ) (r : machine.Refusal) → machine.subscribed k ≡ machine.refused r → ⊥
subscribed_no_refusal k r h = cc

-- ---- its circuit, and its first lines

-- a role comes to a circuit of what the relation shows to it
pub HasReaderFor-HasComeTo : (e new : Store) (role rel place : ℕ) (c : Running) → position (is_for role rel) e.circuits ≡ None → IsCircuitFor e role (plan_at e.catalog rel) c → place ≡ length e.circuits
    → (ks : List RoleCircuit) → HasComeTo e.circuits role rel c ks → new ≡ record e { circuits = ks } → HasReaderFor e role rel place new
HasReaderFor-HasComeTo e d role rel place c none is at ks come state =
    let k = come_to role rel come.at c in
    let left : d ≡ record e { circuits = e.circuits ++ k ∷ [] } = state ∙ ap (λ cs. record e { circuits = cs }) come.added in
    record {
      added = k ∷ [];
      is = (record { acts = refl; shows = refl; is = is; came = refl; opened = refl }, tt);
      shared = λ h. let no : false ≡ true = ap (λ (o : Option ℕ). is_some o) (sym none) ∙ h in cc;
      first = ap (λ (v : Store). position (is_for role rel) v.circuits) left
          ∙ position-push (is_for role rel) e.circuits k ∙ (λ j. if_some (none j) (cond (is_own role rel come.at c j) (Some (sym at j)) None) (λ i. Some i));
      state = left;
    }

-- a circuit that lets through what the role may see is one of the role
pub IsTwin-IsServed : (e : Store) → AllByRecursion (IsRoleCircuit e) e.circuits → (role rel : ℕ) (o : Option ReaderId) → IfSome o (λ r. IsServed e.circuits e.known.rights role rel r.0) → IfSome o (λ r. IsTwin e role rel r.0)
IsTwin-IsServed e are role rel None h = tt
IsTwin-IsServed e are role rel (Some reader) h = record {
  low = h.low;
  is = λ k at.
      let i = AllByRecursion-get_or (IsRoleCircuit e) e.circuits reader.0 k are h.low at in
      subst (λ r. IsCircuitFor e role (plan_at e.catalog r) k.circuit) (h.shows k at) (IsCircuitFor-Serves e e.known.rights k.role role (plan_at e.catalog k.rel) k.circuit i.is (h.serves k at));
}

pub AreFirstLines-machine_line : (e : Store) (place : ℕ) (k : RoleCircuit) → place < length e.circuits → k ≡ get_or e.circuits place k → (s : Subscription) (showed : Weighed) → showed ≡ total_of k.circuit.node
    → (rows : Weighed) → AreInOrder showed false rows → (lines : List machine.Line) → lines ≡ machine_line None s rows → AreFirstLines s (total_at e place) lines
AreFirstLines-machine_line e place k low at s showed is rows order lines told all counts =
    let total = ap (λ o. if_some o [] (λ (c : RoleCircuit). total_of c.circuit.node)) (slice_get-of_get_or e.circuits place k low at) ∙ sym is in
    told ∙ ap (machine_line None s) (order [] all (Moves-from_none showed all (subst (λ (es : Weighed). Counts es all) total counts)))

-- ---- the step

-- the first tests refuse it
pub MayOpen-IsActingOn : (e : Store) (n : ℕ) (name : Name) (stop : Stop) → IsActingOn (database_of e) n name (Err stop) → MayOpen e n name (Err stop)
MayOpen-IsActingOn e n name (Refused r) told =
    let f = frame_of e in
    told (missing f (missing_for f (actor f n) (rel_of f.catalog name)) ∷ full 16 (count_by (λ s. n == s.session) f.subscriptions) ∷ full (2 ^ 63) (f.last + 1) ∷ [])
MayOpen-IsActingOn e n name Memory told = tt

-- all tests that look at no row
pub IsStep-MayOpen : (e : Store) (n : ℕ) (name : Name) (stop : Stop) → MayOpen e n name (Err stop) → IsStep e n (subscribe name) (Err stop) e
IsStep-MayOpen e n name (Refused r) told = IsRefused-frame_refusal e e n (subscribe name) r told refl
IsStep-MayOpen e n name Memory told = tt

module _ (e : Store) (n k : ℕ) (name : Name) (h : IsSoundStore e) (x : IsOpenable e n name k) (role : ℕ) (acts : role ≡ actor (frame_of e) n) where
  -- where what it would show is beyond the limits
  pub beyond_step : (new : Store) → new ≡ e → IsBeyond e role (plan_at e.catalog k) → IsRefused e n (subscribe name) Limit new
  beyond_step d same past = record {
    told = λ T stands. beyond e n k name x T (subst (λ r. is_within_for (at e T) r k ≡ false) acts (past T stands));
    kept = same;
  }

  module _ (place : ℕ) (mid : Store) (got : HasReaderFor e role k place mid) where
    abbrev added : List RoleCircuit
    added = got.added

    are : AllByRecursion (IsNewFor e (actor (frame_of e) n) k) added
    are = subst (λ r. AllByRecursion (IsNewFor e r k) added) acts got.is

    -- with the circuit, and without the subscription yet
    abbrev joined : Store
    joined = record e { circuits = e.circuits ++ added }

    first : position (is_for (actor (frame_of e) n) k) (e.circuits ++ added) ≡ Some place
    first = (λ i. position (is_for (sym acts i) k) (sym got.state i).circuits) ∙ got.first

    found : is_some (position (is_for (actor (frame_of e) n) k) (e.circuits ++ added)) ≡ true
    found = ap (λ (o : Option ℕ). is_some o) first

    circuits : AllByRecursion (IsRoleCircuit joined) joined.circuits
    circuits = all_joined (IsRoleCircuit joined) e.circuits added
        (AllByRecursion-map (IsRoleCircuit e) (IsRoleCircuit joined) e.circuits
        (λ c i. record { known = i.known; is = IsCircuitFor-other_readers e e.subscriptions joined.circuits e.last c.role (plan_at e.catalog c.rel) c.circuit i.is; opened = i.opened }) h.circuits)
        (AllByRecursion-map (IsNewFor e (actor (frame_of e) n) k) (IsRoleCircuit joined) added (λ c i. record {
          known = subst (λ rel. rel < length e.catalog) (sym i.shows) x.below;
          is = IsCircuitFor-other_readers e e.subscriptions joined.circuits e.last c.role (plan_at e.catalog c.rel) c.circuit
              (subst (λ rel. IsCircuitFor e c.role (plan_at e.catalog rel) c.circuit) (sym i.shows) (subst (λ r. IsCircuitFor e r (plan_at e.catalog k) c.circuit) (sym i.acts) i.is));
          opened = unopened c i.came i.opened;
        }) are)

    fits : IsWithin e (asked e n k)
    fits = circuits_within joined circuits (asked e n k) found

    module _ (s : Subscription) (same : s ≡ asked e n k) (lines : Vec Line) (told : AreFirstLines s (total_at mid place) (map line_of lines.items)) (new : Store) (left : new ≡ with_subscription s place mid) where
      abbrev now : Store
      now = opened e added place (asked e n k)

      now_is : new ≡ now
      now_is = left ∙ (λ i. with_subscription (same i) place (got.state i))

      counts : (T : Lists) → Stands T e.tables → Counts (total_at mid place) (shown_rows e T (asked e n k))
      counts T stands = subst (λ (v : Store). Counts (total_at v place) (shown_rows e T (asked e n k))) (sym got.state) (total_counts joined circuits T stands (asked e n k) place first)

      lines_sent : (T : Lists) (stands : Stands T e.tables) → map line_of lines.items ≡ sent e T n (subscribe name)
      lines_sent T stands = told (shown_rows e T (asked e n k)) (counts T stands)
          ∙ ap (λ (y : Subscription). machine_line None y (difference [] (shown_rows e T (asked e n k)))) same
          ∙ sym (opened_sent e n k name h x fits added are place first T stands)

      -- it has its first lines, and is kept beside the others
      pub opened_step : (reply : Reply) → reply_of reply ≡ machine.subscribed s.number → IsAccepted e n (subscribe name) (record { reply = reply; changes = lines }) new
      opened_step reply is = record {
        answer = λ T stands. (decided e n k name x T (fits T stands), is ∙ ap (λ (y : Subscription). machine.subscribed y.number) same, lines_sent T stands);
        left = λ T stands. subst (λ (t : State). IsBehind t (seen new)) (sym (opened_left e n k name h x fits added are place first T stands))
            (subst (λ (v : Store). IsBehind (at now T) (seen v)) (sym now_is) (record { frame = refl; rows = stands }));
        accepts = λ r no. subscribed_no_refusal s.number r (sym is ∙ no);
        rounds = subst (λ (v : Store). AreCounted (seen e) (subscribe name) (seen v)) (sym now_is) (opened_counted e n k name h x fits added are place first);
        sound = subst IsSoundStore (sym now_is) (opened_sound e n k name h x fits added are place first);
      }
