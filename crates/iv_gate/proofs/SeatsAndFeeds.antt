-- The machine's sessions are the gateway's seats, its subscriptions are feeds, and each role of a client has a seat.
use Rattle.std.proofs.Common.{◌≡◌, ℕ, zero, suc, ◌<◌, ◌+◌, Bool, true, false, not, cond, ◌||◌, List, [], ◌∷◌, ◌++◌, map, length, Option, Some, None, is_some, option_map, refl, ap, ◌∙◌, sym, subst, arith}
use Rattle.std.specs.Prelude.{◌==◌, ◌&&◌, bytes_eq, filter, find, flat_map, nat_lt}
use Rattle.std.specs.List.{AllByRecursion, list_any, position, position_or_len}
use Rattle.std.proofs.lemmas.Bool.{false≢true, eqb-true, ltb-true, or_right}
use Rattle.serde_json.specs.Data.{Data}
use Rattle.iv_rows.specs.Options.{if_some}
use Rattle.iv_access.specs.Rights.{Name}
use Rattle.iv_machine.specs.Act.{Act, begin, finish, subscribe, unsubscribe, Command, Line, Refusal, subscribed, refused, no_session, unknown_subscription}
use Rattle.iv_machine.specs.Changing.{after, after_sessions, after_subscriptions, insert_subscription, opened_by}
use Rattle.iv_machine.specs.Machine.{ending_by, line_for, outcome, settled, step, ending, Outcome}
use Rattle.iv_machine.specs.Reached.{AreGiven, AreNumbersUnique, AreUnique}
use Rattle.iv_machine.specs.Refusing.{has_subscription, or_else, refusal, test}
use Rattle.iv_machine.specs.State.{Frame, Session, State, Subscription, is_open, session_of, subscription_of}
use Rattle.iv_machine.specs.declared.Cause.{Cause}
use Rattle.iv_machine.proofs.SubscriptionPlaces.{all_inserted, find_more}
use Rattle.iv_machine.proofs.UniqueNumbers.{AreNumbersUnique-after_frame}
use Rattle.iv_machine.proofs.Readers.{subscription_of-each}
use Rattle.iv_message.specs.Told.{Told, replied, opened}
use Rattle.iv_clients.specs.Clients.{Client, Slots, at_all, at_client, client_at, following, has_role, staying, telling, told_one}
use Rattle.iv_clients.specs.Feeds.{Feed, Seat, ends_in, feed_of, feeds_left, is_of_role, seat_of, without_feed, without_seat}
use Rattle.iv_clients.proofs.Slots.{same-Some, not_None-Some}
use Rattle.iv_gate.specs.Gate.{Gate, begun_for, columns_in, feed_begun, in_session, next_own, ran, seated, shut, subscribes, tells, told_of, entered, went_on}
use Rattle.iv_gate.specs.Replies.{ActsAs}
use Rattle.iv_gate.proofs.SoundRequests.{refusal-begun_for}
use Rattle.iv_gate.proofs.CommandEnds.{IsEnded-ends_in}
use Rattle.iv_gate.proofs.GrownTexts.{map-append_front}
use Rattle.iv_gate.proofs.SameFeeds.{bytes_eq-itself, same-bytes_eq}
use Rattle.iv_gate.proofs.MachineLists.{find-filter_left, true-find, true-cond_Some}
use Rattle.iv_gate.proofs.NewSubscriptions.{eq-le_next, reply_in-None, reply_in-Some}
use Rattle.iv_gate.proofs.SoundSteps.{AllByRecursion-map, AllByRecursion-filter}
use Rattle.iv_gate.proofs.SoundCommands.{IsFeed, Seer, AllByRecursion-filter_not, feed_of-filter, seer-telling, Sounds}
use Rattle.iv_gate.proofs.NumberSums.{AllByRecursion-zip, eq-itself}
use Rattle.iv_records.specs.Journal.{Entry}
use Rattle.iv_steps.specs.Steps.{Fact, all_carried, among, looked_at, shared, stepped}
use Rattle.iv_machine.specs.Sound.{IsSoundState}

-- the subscription is a feed, in its session
pub record IsFed (feeds : List Feed) (e : Subscription) : Type 0 where
  pub feed : Feed
  pub found : feed_of feeds e.number ≡ Some feed
  pub session : feed.session ≡ e.session

abbrev pub numbers_in : List Session → List ℕ
numbers_in es = map (λ (e : Session). e.number) es

abbrev pub seats_in : List Seat → List ℕ
seats_in seats = map (λ (s : Seat). s.session) seats

pub record IsShared (g : Gate) : Type 0 where
  pub sessions : numbers_in g.machine.frame.sessions ≡ seats_in g.seats
  pub seated : (role : Name) → has_role role g.clients ≡ true → is_some (seat_of g.seats role) ≡ true
  pub fed : AllByRecursion (IsFed g.feeds) g.machine.frame.subscriptions

-- ---- one command of the machine

-- what stands after the change and does not end stays fed
fed_left : (old new : State) (ends : Subscription → Option Cause) (feeds : List Feed) (es : List Subscription) (e : Subscription) → AreUnique es → subscription_of es e.number ≡ Some e
    → IsFed feeds e → is_some (ends e) ≡ false → IsFed (feeds_left (flat_map (line_for old new ends) es) feeds) e
fed_left old new ends feeds es e u h b n = record {
  feed = b.feed;
  found = feed_of-filter (ends_in ls) e.number b.feed feeds b.found (by (ends_in ls e.number) refl);
  session = b.session;
}
  where
    ls : List Line
    ls = flat_map (line_for old new ends) es

    by : (t : Bool) → ends_in ls e.number ≡ t → ends_in ls e.number ≡ false
    by false t = t
    by true t =
        let x = IsEnded-ends_in e.number old new ends es u t in
        absurd (false≢true (sym n ∙ (ap (λ z. is_some (ends z)) (same-Some e x.subscription (sym h ∙ x.found)) ∙ x.ended)))

fed_settled : (s : State) (n : ℕ) (act : Act) (feeds : List Feed) → AreNumbersUnique s.frame → AllByRecursion (IsFed feeds) (after_subscriptions s.frame n act)
    → AllByRecursion (IsFed (feeds_left (flat_map (line_for s (settled act (after s n act)) (ending_by act (after s n act))) (after_subscriptions s.frame n act)) feeds))
    (settled act (after s n act)).frame.subscriptions
fed_settled s n act feeds u a =
    let es = after_subscriptions s.frame n act in let v = (AreNumbersUnique-after_frame s.frame n act u).unique in let ends = ending_by act (after s n act) in
    let ls = flat_map (line_for s (settled act (after s n act)) ends) es in
    AllByRecursion-filter_not (IsFed (feeds_left ls feeds)) (λ e. is_some (ends e)) es
    (AllByRecursion-zip {P = λ e. subscription_of es e.number ≡ Some e} {Q = IsFed feeds} {R = λ e. is_some (ends e) ≡ false → IsFed (feeds_left ls feeds) e}
    (λ e h b stays. fed_left s (settled act (after s n act)) ends feeds es e v h b stays) es (subscription_of-each es v) a)

fed_by : (s : State) (k : Command) (feeds : List Feed) (o : Option Refusal) → AreNumbersUnique s.frame → (o ≡ None → AllByRecursion (IsFed feeds) (after_subscriptions s.frame k.session k.act))
    → ((r : Refusal) → o ≡ Some r → AllByRecursion (IsFed feeds) s.frame.subscriptions) → AllByRecursion (IsFed (feeds_left (outcome s k o).lines feeds)) (outcome s k o).state.frame.subscriptions
fed_by s k feeds (Some r) u a b = AllByRecursion-map {P = IsFed feeds} {Q = IsFed (feeds_left (outcome s k (Some r)).lines feeds)}
    (λ e x. record { feed = x.feed; found = feed_of-filter (λ j. false) e.number x.feed feeds x.found refl; session = x.session }) s.frame.subscriptions
    (b r refl)
fed_by s k feeds None u a b = fed_settled s k.session k.act feeds u (a refl)

fed_step : (s : State) (k : Command) (feeds : List Feed) → AreNumbersUnique s.frame → (refusal s k.session k.act ≡ None → AllByRecursion (IsFed feeds) (after_subscriptions s.frame k.session k.act))
    → ((r : Refusal) → refusal s k.session k.act ≡ Some r → AllByRecursion (IsFed feeds) s.frame.subscriptions) → AllByRecursion (IsFed (feeds_left (step s k).lines feeds)) (step s k).state.frame.subscriptions
fed_step s k feeds u a b = fed_by s k feeds (refusal s k.session k.act) u a b

-- sessions are begun and finished by no other request
abbrev pub keeps_sessions : Act → Bool
keeps_sessions (begin role) = false
keeps_sessions finish = false
keeps_sessions _ = true

sessions_same : (f : Frame) (n : ℕ) (act : Act) → keeps_sessions act ≡ true → after_sessions f n act ≡ f.sessions
sessions_same f n (begin role) h = absurd (false≢true h)
sessions_same f n finish h = absurd (false≢true h)
sessions_same f n _ h = refl

sessions_by : (s : State) (k : Command) (o : Option Refusal) → keeps_sessions k.act ≡ true → (outcome s k o).state.frame.sessions ≡ s.frame.sessions
sessions_by s k (Some r) h = refl
sessions_by s k None h = sessions_same s.frame k.session k.act h

pub sessions_step : (s : State) (k : Command) → keeps_sessions k.act ≡ true → (step s k).state.frame.sessions ≡ s.frame.sessions
sessions_step s k h = sessions_by s k (refusal s k.session k.act) h

-- subscriptions are opened and closed by no other request
abbrev pub is_plain : Act → Bool
is_plain (begin role) = false
is_plain finish = false
is_plain (subscribe rel) = false
is_plain (unsubscribe k) = false
is_plain _ = true

pub subscriptions_same : (f : Frame) (n : ℕ) (act : Act) → is_plain act ≡ true → after_subscriptions f n act ≡ f.subscriptions
subscriptions_same f n finish h = absurd (false≢true h)
subscriptions_same f n (subscribe rel) h = absurd (false≢true h)
subscriptions_same f n (unsubscribe k) h = absurd (false≢true h)
subscriptions_same f n _ h = refl

pub plain_keeps : (act : Act) → is_plain act ≡ true → keeps_sessions act ≡ true
plain_keeps (begin role) h = absurd (false≢true h)
plain_keeps finish h = absurd (false≢true h)
plain_keeps _ h = refl

-- ---- roles of clients

role_kept : (f : Client → Client) → ((c : Client) → (f c).role ≡ c.role) → (role : Name) (o : Option Client)
    → if_some (option_map f o) false (λ (c : Client). bytes_eq c.role role) ≡ if_some o false (λ (c : Client). bytes_eq c.role role)
role_kept f k role None = refl
role_kept f k role (Some c) = ap (λ r. bytes_eq r role) (k c)

pub has_role-client_at : (slots : Slots) (m : ℕ) (c : Client) → client_at slots m ≡ Some c → has_role c.role slots ≡ true
has_role-client_at [] m c h = absurd (not_None-Some c (sym h))
has_role-client_at (o ∷ os) zero c h = ap (λ (x : Option Client). if_some x false (λ (d : Client). bytes_eq d.role c.role) || has_role c.role os) h ∙ ap (λ b. b || has_role c.role os) (bytes_eq-itself c.role)
has_role-client_at (o ∷ os) (suc m) c h = or_right (if_some o false (λ (d : Client). bytes_eq d.role c.role)) (has_role c.role os) (has_role-client_at os m c h)

pub has_role-at_all : (f : Client → Client) → ((c : Client) → (f c).role ≡ c.role) → (role : Name) (slots : Slots) → has_role role (at_all f slots) ≡ has_role role slots
has_role-at_all f k role [] = refl
has_role-at_all f k role (o ∷ os) = (λ i. role_kept f k role o i || has_role-at_all f k role os i)

pub roles_one : (m : ℕ) (f : Client → Client) → ((c : Client) → (f c).role ≡ c.role) → (role : Name) (slots : Slots) → has_role role (at_client m f slots) ≡ has_role role slots
roles_one m f k role [] = refl
roles_one zero f k role (o ∷ os) = (λ i. role_kept f k role o i || has_role role os)
roles_one (suc m) f k role (o ∷ os) = (λ i. if_some o false (λ (c : Client). bytes_eq c.role role) || roles_one m f k role os i)

ran_role : (g : Gate) (k : Command) (c : Client) → (staying (step g.machine k).lines (telling g.entries (told_of g k.act (step g.machine k) c) c)).role ≡ c.role
ran_role g k c = ap (λ (v : Seer). v.role) (seer-telling g.entries (told_of g k.act (step g.machine k) c) c)

pub ran_roles : (g : Gate) (k : Command) (role : Name) → has_role role (ran g k).clients ≡ has_role role g.clients
ran_roles g k role = has_role-at_all (λ c. staying (step g.machine k).lines (telling g.entries (told_of g k.act (step g.machine k) c) c)) (λ c. ran_role g k c) role g.clients

pub IsShared-at_client : (g : Gate) (m : ℕ) (f : Client → Client) → ((c : Client) → (f c).role ≡ c.role) → IsShared g → IsShared (record g { clients = at_client m f g.clients })
IsShared-at_client g m f k b = record { sessions = b.sessions; seated = λ role h. b.seated role (sym (roles_one m f k role g.clients) ∙ h); fed = b.fed }

pub IsShared-at_all : (g : Gate) (f : Client → Client) → ((c : Client) → (f c).role ≡ c.role) → IsShared g
    → IsShared (record g { clients = at_all f g.clients })
IsShared-at_all g f k b = record { sessions = b.sessions; seated = λ role h. b.seated role (sym (has_role-at_all f k role g.clients) ∙ h); fed = b.fed }

-- ---- commands of the gateway

pub IsShared-ran : (g : Gate) (k : Command) → is_plain k.act ≡ true → AreNumbersUnique g.machine.frame → IsShared g → IsShared (ran g k)
IsShared-ran g k p u b = record {
  sessions = ap numbers_in (sessions_step g.machine k (plain_keeps k.act p)) ∙ b.sessions;
  seated = λ role h. b.seated role (sym (ran_roles g k role) ∙ h);
  fed = fed_step g.machine k g.feeds u (λ h. subst (AllByRecursion (IsFed g.feeds)) (sym (subscriptions_same g.machine.frame k.session k.act p)) b.fed) (λ r h. b.fed);
}

pub begun_sessions : (s : State) (n : ℕ) (role : Name) (o : Option Refusal) → o ≡ None → numbers_in (outcome s (in_session n (begin role)) o).state.frame.sessions ≡ numbers_in s.frame.sessions ++ n ∷ []
begun_sessions s n role (Some r) h = absurd (not_None-Some r h)
begun_sessions s n role None h = map-append_front (λ (e : Session). e.number) s.frame.sessions _

mapped_some : {X Y : Type 0} (f : X → Y) (o : Option X) → is_some (option_map f o) ≡ is_some o
mapped_some f None = refl
mapped_some f (Some x) = refl

pub seat_more : (seats more : List Seat) (role : Name) → is_some (seat_of seats role) ≡ true → is_some (seat_of (seats ++ more) role) ≡ true
seat_more seats more role h =
    mapped_some (λ (s : Seat). s.session) (find (is_of_role role) (seats ++ more))
    ∙ find_more (is_of_role role) seats more (sym (mapped_some (λ (s : Seat). s.session) (find (is_of_role role) seats)) ∙ h)

pub IsShared-seated : (g : Gate) (n : ℕ) (role : Name) → begun_for g role ≡ Some n → AreNumbersUnique g.machine.frame → IsShared g → IsShared (seated g n role)
IsShared-seated g n role e u b =
    let k = in_session n (begin role) in let h = record g { seats = g.seats ++ record { session = n; role = role } ∷ [] } in
    record {
      sessions = begun_sessions g.machine n role (refusal g.machine n (begin role)) (refusal-begun_for g role n e) ∙ (ap (λ z. z ++ n ∷ []) b.sessions ∙ sym (map-append_front (λ (s : Seat). s.session) g.seats _));
      seated = λ r i. seat_more g.seats _ r (b.seated r (sym (ran_roles h k r) ∙ i));
      fed = fed_step g.machine k g.feeds u (λ i. b.fed) (λ r i. b.fed);
    }

-- what a step does not end stays fed
fed_looked : (s t : State) (feeds : List Feed) → AreUnique s.frame.subscriptions → AllByRecursion (IsFed feeds) s.frame.subscriptions
    → AllByRecursion (IsFed (feeds_left (looked_at s (among s t)).lines feeds)) (looked_at s (among s t)).state.frame.subscriptions
fed_looked s t feeds u a =
    let now = among s t in let new = (looked_at s now).state in let es = s.frame.subscriptions in let ls = flat_map (line_for s new (ending now)) es in
    AllByRecursion-filter_not (IsFed (feeds_left ls feeds)) (λ e. is_some (ending now e)) es
    (AllByRecursion-zip {P = λ e. subscription_of es e.number ≡ Some e} {Q = IsFed feeds} {R = λ e. is_some (ending now e) ≡ false → IsFed
    (feeds_left ls feeds) e}
    (λ e h b stays. fed_left s new (ending now) feeds es e u h b stays) es (subscription_of-each es u) a)

pub IsShared-stepped : Sounds → (g : Gate) (es : List Entry) (fs : List Fact) (o : Outcome) (ts : Client → List Told) → stepped fs g.machine ≡ Some o → IsSoundState g.machine → IsShared g
    → IsShared (went_on (entered g es) o ts)
IsShared-stepped sounds g es fs o ts h s b = record {
  sessions = ap numbers_in (sounds.told fs g.machine o s h).sessions ∙ b.sessions;
  seated = λ role j. b.seated role (sym (has_role-at_all (λ c. staying o.lines (telling (g.entries ++ es) (ts c) c)) (λ c. ap (λ (v : Seer). v.role) (seer-telling (g.entries ++ es) (ts c) c)) role g.clients) ∙ j);
  fed = by (all_carried fs (shared g.machine)) h;
}
  where
    by : (t : Option State) → option_map (λ u. looked_at g.machine (among g.machine u)) t ≡ Some o → AllByRecursion (IsFed (feeds_left o.lines g.feeds)) o.state.frame.subscriptions
    by None e = absurd (not_None-Some o (sym e))
    by (Some t) e = subst (λ (z : Outcome). AllByRecursion (IsFed (feeds_left z.lines g.feeds)) z.state.frame.subscriptions) (same-Some (looked_at g.machine (among g.machine t)) o e)
        (fed_looked g.machine t g.feeds s.numbers.unique b.fed)

-- ---- a subscription is opened

older_fed : (last : ℕ) (new : Feed) (feeds : List Feed) (es : List Subscription) → new.number ≡ last + 1 → AreGiven last es → AllByRecursion (IsFed feeds) es → AllByRecursion (IsFed (new ∷ feeds)) es
older_fed last new feeds [] h v a = tt
older_fed last new feeds (e ∷ es) h v a = (
  record {
    feed = a.0.feed;
    found = ap (λ i. cond (e.number == i) (Some new) (feed_of feeds e.number)) h ∙ (ap (λ z. cond z (Some new) (feed_of feeds e.number)) (eq-le_next e.number last v.0) ∙ a.0.found);
    session = a.0.session;
  },
  older_fed last new feeds es h v.1 a.1,
)

opened_fed : (g : Gate) (n : ℕ) (role rel : Name) → AreNumbersUnique g.machine.frame → IsShared g
    → AllByRecursion (IsFed (record { number = g.machine.frame.last + 1; session = n; role = role; rel = rel } ∷ g.feeds)) (insert_subscription (opened_by g.machine.frame n rel) g.machine.frame.subscriptions)
opened_fed g n role rel u b =
    let new : Feed = record { number = g.machine.frame.last + 1; session = n; role = role; rel = rel } in
    all_inserted (IsFed (new ∷ g.feeds)) (opened_by g.machine.frame n rel) g.machine.frame.subscriptions
    (record { feed = new; found = ap (λ z. cond z (Some new) (feed_of g.feeds (g.machine.frame.last + 1))) (eq-itself (g.machine.frame.last + 1)); session = refl })
    (older_fed g.machine.frame.last new g.feeds g.machine.frame.subscriptions refl u.given b.fed)

pub IsShared-subscribes : (g : Gate) (m : ℕ) (id : Option Data) (n : ℕ) (role rel : Name) → AreNumbersUnique g.machine.frame → IsShared g → IsShared (subscribes g m id n role rel)
IsShared-subscribes g m id n role rel u b = by (refusal g.machine n (subscribe rel)) refl
  where
    k : Command
    k = in_session n (subscribe rel)

    told_by : Told → Slots
    told_by t = at_client m (told_one g.entries t) g.clients

    t : Told
    t = opened id (next_own g m) (columns_in g.machine rel)

    by : (o : Option Refusal) → refusal g.machine n (subscribe rel) ≡ o → IsShared (subscribes g m id n role rel)
    by None h =
        let new : Feed = record { number = g.machine.frame.last + 1; session = n; role = role; rel = rel } in
        let i = feed_begun g m id n role rel (subscribed (g.machine.frame.last + 1)) in
        subst (λ r. IsShared (ran (feed_begun g m id n role rel r) (in_session n (subscribe rel)))) (sym (reply_in-None g.machine n rel (refusal g.machine n (subscribe rel)) h))
        (record {
          sessions = ap numbers_in (sessions_step g.machine k refl) ∙ b.sessions;
          seated = λ name j. b.seated name (sym (ran_roles i k name ∙ (roles_one m (following (g.machine.frame.last + 1)) (λ c. refl) name (told_by t) ∙ roles_one m (told_one g.entries t) (λ c. refl) name g.clients)) ∙ j);
          fed = fed_step g.machine k (new ∷ g.feeds) u (λ j. opened_fed g n role rel u b) (λ r j. absurd (not_None-Some r (sym j ∙ h)));
        })
    by (Some r) h =
        let i = tells g m (replied id (refused r)) in
        subst (λ x. IsShared (ran (feed_begun g m id n role rel x) (in_session n (subscribe rel)))) (sym (reply_in-Some g.machine n rel (refusal g.machine n (subscribe rel)) r h))
        (record {
          sessions = ap numbers_in (sessions_step g.machine k refl) ∙ b.sessions;
          seated = λ name j. b.seated name (sym (ran_roles i k name ∙ roles_one m (told_one g.entries (replied id (refused r))) (λ c. refl) name g.clients) ∙ j);
          fed = fed_step g.machine k g.feeds u (λ j. absurd (not_None-Some r (sym h ∙ j))) (λ x j. b.fed);
        })

-- ---- a feed is closed

has_sub : (n k : ℕ) (es : List Subscription) (x : Subscription) → subscription_of es k ≡ Some x → x.session ≡ n → list_any (λ e. (n == e.session) && (k == e.number)) es ≡ true
has_sub n k [] x h s = absurd (not_None-Some x (sym h))
has_sub n k (e ∷ es) x h s = by (k == e.number) refl h (λ i. has_sub n k es x i s)
  where
    here : e ≡ x → (n == e.session) ≡ true
    here i = ap (λ (y : Subscription). n == y.session) i ∙ (ap (λ j. n == j) s ∙ eq-itself n)

    right : (a b : Bool) → b ≡ true → (a || b) ≡ true
    right true b i = refl
    right false b i = i

    by : (b : Bool) → (k == e.number) ≡ b → cond b (Some e) (subscription_of es k) ≡ Some x → (subscription_of es k ≡ Some x → list_any (λ y. (n == y.session) && (k == y.number)) es ≡ true)
        → (((n == e.session) && (k == e.number)) || list_any (λ y. (n == y.session) && (k == y.number)) es) ≡ true
    by true f i more = (λ j. (here (same-Some e x i) j && f j) || list_any (λ y. (n == y.session) && (k == y.number)) es)
    by false f i more = right ((n == e.session) && (k == e.number)) _ (more i)

closes_by : (a b : Bool) → a ≡ true → b ≡ true → or_else (or_else (test (not a) no_session) (or_else (test (not b) unknown_subscription) None)) None ≡ None
closes_by a b h k = (λ i. or_else (or_else (test (not (h i)) no_session) (or_else (test (not (k i)) unknown_subscription) None)) None)

-- a feed's subscription can be closed
unsubscribes : (s : State) (f : Feed) → IsFeed s f → refusal s f.session (unsubscribe f.number) ≡ None
unsubscribes s f b = closes_by (is_open s.frame f.session) (has_subscription s.frame f.session f.number) (ap is_some b.acts.session) (has_sub f.session f.number s.frame.subscriptions _ b.found refl)

pub IsShared-shut : (g : Gate) (f : Feed) → IsFeed g.machine f → AreNumbersUnique g.machine.frame → IsShared g → IsShared (shut g f)
IsShared-shut g f x u b =
    let k = in_session f.session (unsubscribe f.number) in let h = record g { feeds = without_feed f.number g.feeds } in
    record {
      sessions = ap numbers_in (sessions_step g.machine k refl) ∙ b.sessions;
      seated = λ name j. b.seated name (sym (ran_roles h k name) ∙ j);
      fed = fed_step g.machine k (without_feed f.number g.feeds) u
          (λ i. AllByRecursion-filter_not (IsFed (without_feed f.number g.feeds)) (λ e. f.number == e.number) g.machine.frame.subscriptions
          (AllByRecursion-map {P = IsFed g.feeds} {Q = λ e. (f.number == e.number) ≡ false → IsFed (without_feed f.number g.feeds) e}
          (λ e y n. record { feed = y.feed; found = feed_of-filter (λ j. f.number == j) e.number y.feed g.feeds y.found n; session = y.session }) g.machine.frame.subscriptions b.fed))
          (λ r i. absurd (not_None-Some r (sym i ∙ unsubscribes g.machine f x)));
    }

-- ---- a session is finished

-- a seat with the session is of the same role
abbrev pub IsAlone : Seat → List Seat → Type 0
IsAlone s seats = AllByRecursion (λ (x : Seat). (s.session == x.session) ≡ true → x.role ≡ s.role) seats

filter_mapped : {X : Type 0} (f : X → ℕ) (n : ℕ) (xs : List X) → map f (filter (λ x. not (n == f x)) xs) ≡ filter (λ i. not (n == i)) (map f xs)
filter_mapped f n [] = refl
filter_mapped f n (x ∷ xs) = by (n == f x) (filter_mapped f n xs)
  where
    by : (b : Bool) → map f (filter (λ y. not (n == f y)) xs) ≡ filter (λ i. not (n == i)) (map f xs)
        → map f (cond (not b) (x ∷ filter (λ y. not (n == f y)) xs) (filter (λ y. not (n == f y)) xs)) ≡ cond (not b) (f x ∷ filter (λ i. not (n == i)) (map f xs)) (filter (λ i. not (n == i)) (map f xs))
    by true h = h
    by false h = ap (λ z. f x ∷ z) h

none_there : (n : ℕ) (es : List Session) → is_some (session_of es n) ≡ false → filter (λ i. not (n == i)) (numbers_in es) ≡ numbers_in es
none_there n [] h = refl
none_there n (e ∷ es) h = by (n == e.number) h (none_there n es)
  where
    by : (b : Bool) → is_some (cond b (Some e) (session_of es n)) ≡ false → (is_some (session_of es n) ≡ false → filter (λ i. not (n == i)) (numbers_in es) ≡ numbers_in es)
        → cond (not b) (e.number ∷ filter (λ i. not (n == i)) (numbers_in es)) (filter (λ i. not (n == i)) (numbers_in es)) ≡ e.number ∷ numbers_in es
    by true k more = absurd (false≢true (sym k))
    by false k more = ap (λ z. e.number ∷ z) (more k)

not_open : (a : Bool) (r : Refusal) → or_else (or_else (test (not a) no_session) None) None ≡ Some r → a ≡ false
not_open true r h = absurd (not_None-Some r (sym h))
not_open false r h = refl

pub finished_sessions : (s : State) (n : ℕ) (o : Option Refusal) → refusal s n finish ≡ o → numbers_in (outcome s (in_session n finish) o).state.frame.sessions ≡ filter (λ i. not (n == i)) (numbers_in s.frame.sessions)
finished_sessions s n (Some r) h = sym (none_there n s.frame.sessions (not_open (is_open s.frame n) r h))
finished_sessions s n None h = filter_mapped (λ (e : Session). e.number) n s.frame.sessions

of_some : {X : Type 0} (o : Option X) → is_some o ≡ true → (P : Type 0) → ((x : X) → o ≡ Some x → P) → P
of_some None h P k = absurd (false≢true h)
of_some (Some x) h P k = k x refl

seat_in : (P : Seat → Type 0) (q : Seat → Bool) (xs : List Seat) (x : Seat) → AllByRecursion P xs → find q xs ≡ Some x → P x
seat_in P q [] x a h = absurd (not_None-Some x (sym h))
seat_in P q (y ∷ ys) x a h = by (q y) h (seat_in P q ys x a.1)
  where
    by : (b : Bool) → cond b (Some y) (find q ys) ≡ Some x → (find q ys ≡ Some x → P x) → P x
    by true k more = subst P (same-Some y x k) a.0
    by false k more = more k

seat_stays : (g : Gate) (s : Seat) (role : Name) → IsAlone s g.seats → has_role s.role g.clients ≡ false → has_role role g.clients ≡ true → is_some (seat_of g.seats role) ≡ true
    → is_some (seat_of (without_seat s.session g.seats) role) ≡ true
seat_stays g s role a none some h =
    of_some (find (is_of_role role) g.seats) (sym (mapped_some (λ (x : Seat). x.session) (find (is_of_role role) g.seats)) ∙ h) (is_some (seat_of (without_seat s.session g.seats) role) ≡ true)
    (λ x e. ap (λ o. is_some (option_map (λ (y : Seat). y.session) o)) (find-filter_left (is_of_role role) (λ (y : Seat). not (s.session == y.session)) g.seats x e (by x e (s.session == x.session) refl)))
  where
    by : (x : Seat) → find (is_of_role role) g.seats ≡ Some x → (b : Bool) → (s.session == x.session) ≡ b → not (s.session == x.session) ≡ true
    by x e false f = ap not f
    by x e true f =
        let same : role ≡ s.role = sym (same-bytes_eq x.role role (true-find (is_of_role role) g.seats x e)) ∙ seat_in (λ (y : Seat). (s.session == y.session) ≡ true → y.role ≡ s.role) (is_of_role role) g.seats x a e f in
        absurd (false≢true (sym none ∙ (ap (λ r. has_role r g.clients) (sym same) ∙ some)))

pub IsShared-finish : (g : Gate) (s : Seat) → IsAlone s g.seats → has_role s.role g.clients ≡ false → AreNumbersUnique g.machine.frame → IsShared g
    → IsShared (ran (record g { seats = without_seat s.session g.seats }) (in_session s.session finish))
IsShared-finish g s a none u b =
    let k = in_session s.session finish in let h = record g { seats = without_seat s.session g.seats } in
    record {
      sessions = finished_sessions g.machine s.session (refusal g.machine s.session finish) refl
          ∙ (ap (filter (λ i. not (s.session == i))) b.sessions ∙ sym (filter_mapped (λ (x : Seat). x.session) s.session g.seats));
      seated = λ role j. let some = sym (ran_roles h k role) ∙ j in seat_stays g s role a none some (b.seated role some);
      fed = fed_step g.machine k g.feeds u (λ i. AllByRecursion-filter (IsFed g.feeds) (λ e. not (s.session == e.session)) g.machine.frame.subscriptions b.fed) (λ r i. b.fed);
    }

-- ---- two roles do not act in one session

same_place : (r q : Name) (xs : List Name) → position_or_len (bytes_eq r) xs ≡ position_or_len (bytes_eq q) xs → position_or_len (bytes_eq r) xs < length xs → r ≡ q
same_place r q [] h l = absurd (let no : ⊥ = omega (arith, l) in no)
same_place r q (x ∷ xs) h l = by (bytes_eq r x) (bytes_eq q x) refl refl h l (same_place r q xs)
  where
    by : (a b : Bool) → bytes_eq r x ≡ a → bytes_eq q x ≡ b → cond (not a) (1 + position_or_len (bytes_eq r) xs) 0 ≡ cond (not b) (1 + position_or_len (bytes_eq q) xs) 0
        → cond (not a) (1 + position_or_len (bytes_eq r) xs) 0 < suc (length xs)
        → (position_or_len (bytes_eq r) xs ≡ position_or_len (bytes_eq q) xs → position_or_len (bytes_eq r) xs < length xs → r ≡ q) → r ≡ q
    by true true e f i j more = same-bytes_eq r x e ∙ sym (same-bytes_eq q x f)
    by true false e f i j more = absurd (let no : ⊥ = omega (arith, i) in no)
    by false true e f i j more = absurd (let no : ⊥ = omega (arith, i) in no)
    by false false e f i j more = more (omega (arith, i)) (omega (arith, j))

pub same-position : (r q : Name) (xs : List Name) (i : ℕ) → position (bytes_eq r) xs ≡ Some i → position (bytes_eq q) xs ≡ Some i → r ≡ q
same-position r q xs i h k =
    let a = true-cond_Some (nat_lt (position_or_len (bytes_eq r) xs) (length xs)) (position_or_len (bytes_eq r) xs) i h in
    let b = true-cond_Some (nat_lt (position_or_len (bytes_eq q) xs) (length xs)) (position_or_len (bytes_eq q) xs) i k in
    same_place r q xs (same-Some _ _ (a.1 ∙ sym b.1)) (ltb-true (position_or_len (bytes_eq r) xs) (length xs) a.0)

place_of : (o : Option Session) (n p q : ℕ) → o ≡ Some (record { number = n; role = p }) → o ≡ Some (record { number = n; role = q }) → p ≡ q
place_of o n p q h k = ap (λ (e : Session). e.role) (same-Some (record { number = n; role = p }) (record { number = n; role = q }) (sym h ∙ k))

pub same-ActsAs : (s : State) (n : ℕ) (r q : Name) → ActsAs s n r → ActsAs s n q → r ≡ q
same-ActsAs s n r q a b =
    let same = place_of (session_of s.frame.sessions n) n a.place b.place a.session b.session in
    same-position r q s.frame.rights.roles b.place (a.known ∙ ap Some same) b.known

pub IsAlone-ActsAs : (s : State) (x : Seat) (seats : List Seat) → ActsAs s x.session x.role → AllByRecursion (λ (y : Seat). ActsAs s y.session y.role) seats → IsAlone x seats
IsAlone-ActsAs s x seats a b =
    AllByRecursion-map {P = λ (y : Seat). ActsAs s y.session y.role} {Q = λ (y : Seat). (x.session == y.session) ≡ true → y.role ≡ x.role}
    (λ y h e. same-ActsAs s y.session y.role x.role h (subst (λ n. ActsAs s n x.role) (eqb-true x.session y.session e) a)) seats b
