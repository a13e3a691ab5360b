-- A client is replied what the machine replies in a session of its role, or the refusal that is said.
use Rattle.std.proofs.Common.{◌≡◌, ◌⊎◌, inl, inr, ℕ, zero, suc, ◌<◌, ◌≤◌, Bool, true, false, not, cond, ◌||◌, List, [], ◌∷◌, ◌++◌, length, Option, Some, None, is_some, refl, ap, ◌∙◌, sym, subst, arith, length-append}
use Rattle.std.specs.Prelude.{◌==◌, count_by, filter, find, nat_le, nat_lt, option_and_then, ◌&&◌, ◌+◌, bytes_eq, codes, drop}
use Rattle.std.specs.List.{AllByRecursion, list_any}
use Rattle.std.proofs.lemmas.Bool.{false≢true, eqb-true}
use Rattle.std.proofs.lemmas.Bool.Decides.{nat_tests}
use Rattle.std.proofs.lemmas.List.{length-map}
use Rattle.std.proofs.lemmas.List.Sums.{length-filter}
use Rattle.serde_json.specs.Data.{Data}
use Rattle.iv_rows.specs.Options.{if_some}
use Rattle.iv_access.specs.Privileges.{role_of}
use Rattle.iv_access.specs.Rights.{Name}
use Rattle.iv_machine.specs.Act.{Act, begin, finish, subscribe, unsubscribe, Refusal, Reply, done, subscribed, refused, no_session, session_in_use, too_many, unknown_role, limit}
use Rattle.iv_machine.specs.Changing.{after}
use Rattle.iv_machine.specs.Given.{count_to}
use Rattle.iv_machine.specs.Machine.{outcome, settled, step}
use Rattle.iv_machine.specs.Reached.{AreUnique}
use Rattle.iv_machine.specs.Refusing.{or_else, refusal, test}
use Rattle.iv_machine.specs.State.{Session, State, Subscription, is_open, session_of}
use Rattle.iv_message.specs.Message.{Message, no_json, too_long, no_object, no_request, request, unknown}
use Rattle.iv_message.specs.Told.{Told, replied, denied, unasked, undecided, answered}
use Rattle.iv_clients.specs.Bounds.{most_feeds, most_seats, most_subs}
use Rattle.iv_clients.specs.Clients.{Client, Slots, client_at}
use Rattle.iv_clients.specs.Feeds.{Feed, Seat, feed_for, is_begun, next_seat, room_for, seat_of, without_feed, without_seat}
use Rattle.iv_records.specs.Journal.{said_by, Request, claim_said, names_in, Entry}
use Rattle.iv_clients.proofs.Slots.{not_None-Some}
use Rattle.iv_gate.specs.Events.{Event}
use Rattle.iv_gate.specs.Gate.{Gate, begun_for, in_session, is_accepted, reply_in, reply_to, seated, has_shape_room, answer_text, answering, asked_by, entered, entries_of, may_have, names_of, number_here, place_at, place_of, next_position, is_follower}
use Rattle.iv_gate.specs.Replies.{ActsAs, AreReplied, HasToWait, IsFull, IsReadingReply, IsReplyTo, IsReplyToAct, reading_told, IsNamedReply, IsReplyToShared, IsSharedReply, added_by, MayBeDone, count_of, elsewhere, is_repeated, names_by, place_after, is_done, is_left, waits}
use Rattle.iv_gate.proofs.ClientAnswers.{IsOwn-heard_by, replies-heard_by, OwnAnswer-IsOwn, told_by-OwnAnswer, next-IsOwn, IsOwn}
use Rattle.iv_gate.proofs.SoundRequests.{refusal-begun_for, ActsAs-feed_for, ActsAs-begun_for, ActsAs-room_for, ActsAs-seat_of}
use Rattle.iv_gate.proofs.QuietBegins.{BeginsQuietly-IsSoundState, begun_state}
use Rattle.iv_gate.proofs.FeedCounts.{feeds_in, lt-feeds_in_filter, le-feeds_in_filter, AreFull-no_room}
use Rattle.iv_gate.proofs.SessionRoom.{IsKept}
use Rattle.iv_gate.proofs.MachineLists.{true-find}
use Rattle.iv_gate.proofs.OwnReplies.{act_reply, asked, begun_reply, first_reply, read_reply, said_reply, act_added, entries-done_for, carried_reply, decided_added, decided_reply, done_reply, said_added, shared_added, shared_reply, verdict_added, verdict_reply}
use Rattle.iv_gate.proofs.SeatsAndFeeds.{IsFed, numbers_in, has_role-client_at, seats_in}
use Rattle.iv_gate.proofs.SoundCommands.{IsSoundGate, Sounds, feed_of-filter}
use Rattle.iv_gate.proofs.NumberSums.{or-both_false}
use Rattle.iv_once.specs.Names.{Ask, Verdict, verdict, Named}
use Rattle.iv_records.specs.Names.{Claim, place_text}
use Rattle.iv_gate.proofs.NameVerdicts.{has_to_wait, is_again, is_ahead, is_another, is_carried, is_foreign, is_late, place_text-place_after, Reason, Reason-verdict}
use Rattle.iv_gate.proofs.NamedReplies.{AreNew, HasToWait-ahead, HasToWait-is_over, IsAnswer-find_named, IsBarred-late, IsBarred-other_digest, IsBarred-other_epoch, MayBeDone-IsFree, NoneAnswers-other_digest, NoneAnswers-remembered_by, log_none, not_HasToWait}
use Rattle.std.proofs.lemmas.Slice.Eq.{bytes_eq-Decides}
use Rattle.iv_gate.proofs.GrownTexts.{drop-append_front}
use Rattle.std.proofs.lemmas.List.Elements.{filter-append}
use Rattle.std.proofs.lemmas.List.Concat.{flat_map-append}
use Rattle.iv_steps.specs.Steps.{is_shared}
use Rattle.iv_gate.proofs.StepRelations.{request_of}

-- ---- a session's subscriptions are feeds of it

fed_rest : (k : ℕ) (fs : List Feed) (es : List Subscription) → list_any (λ (x : Subscription). k == x.number) es ≡ false → AllByRecursion (IsFed fs) es → AllByRecursion (IsFed (without_feed k fs)) es
fed_rest k fs [] n a = tt
fed_rest k fs (x ∷ xs) n a =
    let e = or-both_false (k == x.number) (list_any (λ (y : Subscription). k == y.number) xs) n in (
      record { feed = a.0.feed; found = feed_of-filter (λ j. k == j) x.number a.0.feed fs a.0.found e.0; session = a.0.session },
      fed_rest k fs xs e.1 a.1,
    )

fed_count : (n : ℕ) (es : List Subscription) (fs : List Feed) → AreUnique es → AllByRecursion (IsFed fs) es → length (filter (λ (e : Subscription). n == e.session) es) ≤ length (feeds_in n fs)
fed_count n [] fs u a = omega arith
fed_count n (e ∷ es) fs u a = by (n == e.session) refl (fed_count n es (without_feed e.number fs) u.1 (fed_rest e.number fs es u.0 a.1))
  where
    q : Feed → Bool
    q x = not (e.number == x.number)

    by : (b : Bool) → (n == e.session) ≡ b → length (filter (λ (x : Subscription). n == x.session) es) ≤ length (feeds_in n (without_feed e.number fs))
        → length (cond b (e ∷ filter (λ (x : Subscription). n == x.session) es) (filter (λ (x : Subscription). n == x.session) es)) ≤ length (feeds_in n fs)
    by true h more =
        let less = lt-feeds_in_filter n q fs e.number a.0.feed a.0.found (ap not (true-find (λ (x : Feed). e.number == x.number) fs a.0.feed a.0.found)) (ap (λ i. n == i) a.0.session ∙ h) in
        omega (arith, less, more)
    by false h more = let less = le-feeds_in_filter n q fs in omega (arith, less, more)

-- so each session has a place
places : (g : Gate) → IsSoundGate g → IsKept g → (n : ℕ) → count_by (λ (e : Subscription). n == e.session) g.machine.frame.subscriptions ≤ most_feeds
places g b k n =
    let c = fed_count n g.machine.frame.subscriptions g.feeds b.state.numbers.unique k.shared.fed in let f = k.few.few n in
    subst (λ z. z ≤ most_feeds) (length-filter (λ (e : Subscription). n == e.session) g.machine.frame.subscriptions) (omega (arith, c, f))

-- ---- a session that could not be begun

find_neither : {X : Type 0} (p : X → Bool) (xs ys : List X) → find p (xs ++ ys) ≡ None → (find p xs ≡ None) × (find p ys ≡ None)
find_neither p [] ys h = (refl, h)
find_neither p (x ∷ xs) ys h = by (p x) h (find_neither p xs ys)
  where
    by : (b : Bool) → cond b (Some x) (find p (xs ++ ys)) ≡ None → (find p (xs ++ ys) ≡ None → (find p xs ≡ None) × (find p ys ≡ None)) → (cond b (Some x) (find p xs) ≡ None) × (find p ys ≡ None)
    by true k more = absurd (not_None-Some x k)
    by false k more = more k

find_alike : (p q : ℕ → Bool) (xs : List ℕ) → AllByRecursion (λ i. q i ≡ p i) xs → find q xs ≡ find p xs
find_alike p q [] a = refl
find_alike p q (x ∷ xs) a = (λ i. cond (a.0 i) (Some x) (find_alike p q xs a.1 i))

all_append : {X : Type 0} (P : X → Type 0) (xs : List X) (x : X) → AllByRecursion P xs → P x → AllByRecursion P (xs ++ x ∷ [])
all_append P [] x a h = (h, tt)
all_append P (y ∷ ys) x a h = (a.0, all_append P ys x a.1 h)

all_to : {X : Type 0} (P Q : X → Type 0) → ((x : X) → P x → Q x) → (xs : List X) → AllByRecursion P xs → AllByRecursion Q xs
all_to P Q f [] a = tt
all_to P Q f (x ∷ xs) a = (f x a.0, all_to P Q f xs a.1)

counted : (n : ℕ) → AllByRecursion (λ i. i ≤ n) (count_to n)
counted zero = tt
counted (suc n) = all_append (λ i. i ≤ suc n) (count_to n) (suc n) (all_to (λ i. i ≤ n) (λ i. i ≤ suc n) (λ i h. omega (arith, h)) (count_to n) (counted n)) (omega arith)

begun_without : (n i : ℕ) (seats : List Seat) → (n == i) ≡ false → is_begun (without_seat n seats) i ≡ is_begun seats i
begun_without n i [] h = refl
begun_without n i (s ∷ ss) h = by (n == s.session) (i == s.session) refl refl (begun_without n i ss h)
  where
    by : (a b : Bool) → (n == s.session) ≡ a → (i == s.session) ≡ b → is_begun (without_seat n ss) i ≡ is_begun ss i
        → is_begun (cond (not a) (s ∷ without_seat n ss) (without_seat n ss)) i ≡ (b || is_begun ss i)
    by true true e f more = absurd (false≢true (sym h ∙ (ap (λ j. n == j) (eqb-true i s.session f) ∙ e)))
    by true false e f more = more
    by false b e f more = (λ j. f j || more j)

fewer_seats : (n : ℕ) (seats : List Seat) → length (without_seat n seats) ≤ length seats
fewer_seats n [] = omega arith
fewer_seats n (s ∷ ss) = by (n == s.session) (fewer_seats n ss)
  where
    by : (b : Bool) → length (without_seat n ss) ≤ length ss → length (cond (not b) (s ∷ without_seat n ss) (without_seat n ss)) ≤ suc (length ss)
    by true h = omega (arith, h)
    by false h = omega (arith, h)

one_seat_less : (n : ℕ) (seats : List Seat) → is_begun seats n ≡ true → length (without_seat n seats) < length seats
one_seat_less n [] h = absurd (false≢true h)
one_seat_less n (s ∷ ss) h = by (n == s.session) h (one_seat_less n ss)
  where
    by : (b : Bool) → (b || is_begun ss n) ≡ true → (is_begun ss n ≡ true → length (without_seat n ss) < length ss) → length (cond (not b) (s ∷ without_seat n ss) (without_seat n ss)) < suc (length ss)
    by true k more = let f = fewer_seats n ss in omega (arith, f)
    by false k more = let f = more k in omega (arith, f)

is_true : (b : Bool) → not b ≡ false → b ≡ true
is_true true h = refl
is_true false h = absurd (false≢true (sym h))

-- where each of the numbers has a seat there are as many seats
all_seated : (n : ℕ) (seats : List Seat) → find (λ i. not (is_begun seats i)) (count_to n) ≡ None → n ≤ length seats
all_seated zero seats h = omega arith
all_seated (suc n) seats h =
    let p = find_neither (λ i. not (is_begun seats i)) (count_to n) (suc n ∷ []) h in
    let last : is_begun seats (suc n) ≡ true = is_true (is_begun seats (suc n)) (none_of (not (is_begun seats (suc n))) p.1) in
    let rest = all_seated n (without_seat (suc n) seats)
    (find_alike (λ i. not (is_begun seats i)) (λ i. not (is_begun (without_seat (suc n) seats) i)) (count_to n)
    (all_to (λ i. i ≤ n) (λ i. not (is_begun (without_seat (suc n) seats) i) ≡ not (is_begun seats i)) (λ i l. ap not (begun_without (suc n) i seats (apart n i l))) (count_to n) (counted n)) ∙ p.0) in
    let less = one_seat_less (suc n) seats last in
    omega (arith, rest, less)
  where
    none_of : (b : Bool) → cond b (Some (suc n)) None ≡ None → b ≡ false
    none_of true k = absurd (not_None-Some (suc n) k)
    none_of false k = refl

    apart : (n i : ℕ) → i ≤ n → (suc n == i) ≡ false
    apart n i l = grind (arith, nat_tests)

session_any : (es : List Session) (n : ℕ) → is_some (session_of es n) ≡ list_any (λ j. n == j) (numbers_in es)
session_any [] n = refl
session_any (e ∷ es) n = by (n == e.number) (session_any es n)
  where
    by : (b : Bool) → is_some (session_of es n) ≡ list_any (λ j. n == j) (numbers_in es) → is_some (cond b (Some e) (session_of es n)) ≡ (b || list_any (λ j. n == j) (numbers_in es))
    by true h = refl
    by false h = h

seat_any : (seats : List Seat) (n : ℕ) → list_any (λ j. n == j) (seats_in seats) ≡ is_begun seats n
seat_any [] n = refl
seat_any (s ∷ ss) n = ap (λ b. (n == s.session) || b) (seat_any ss n)

open_seat : (g : Gate) → IsKept g → (n : ℕ) → is_open g.machine.frame n ≡ is_begun g.seats n
open_seat g k n = session_any g.machine.frame.sessions n ∙ (ap (list_any (λ j. n == j)) k.shared.sessions ∙ seat_any g.seats n)

begin_refusal : (a b c : Bool) → a ≡ false → b ≡ true → c ≡ false → or_else (or_else (test a session_in_use) (or_else (test (not b) unknown_role) (or_else (test c too_many) None))) None ≡ None
begin_refusal a b c h k l = (λ i. or_else (or_else (test (h i) session_in_use) (or_else (test (not (k i)) unknown_role) (or_else (test (l i) too_many) None))) None)

accepts : (s : State) (n : ℕ) (role : Name) (o : Option Refusal) → o ≡ None → is_accepted (reply_in (outcome s (in_session n (begin role)) o).lines) ≡ true
accepts s n role None h = refl
accepts s n role (Some r) h = absurd (not_None-Some r h)

at_most : (n : ℕ) → nat_le 256 n ≡ true → 255 ≤ n
at_most n h = grind (arith, nat_tests)

-- then all are begun
pub le-begun_for_none : (g : Gate) (role : Name) → IsSoundGate g → IsKept g → is_some (role_of g.machine.frame.rights role) ≡ true → begun_for g role ≡ None → most_seats ≤ length g.seats
le-begun_for_none g role b k known h = by (next_seat g.seats) refl h
  where
    full : (n : ℕ) → next_seat g.seats ≡ Some n → (t : Bool) → nat_le 256 (length g.machine.frame.sessions) ≡ t → cond (is_accepted (reply_to g (in_session n (begin role)))) (Some n) None ≡ None → most_seats ≤ length g.seats
    full n e true t i = subst (λ z. 255 ≤ z) (sym (length-map g.machine.frame.sessions (λ (x : Session). x.number)) ∙ (ap length k.shared.sessions ∙ length-map g.seats (λ (x : Seat). x.session))) (at_most (length g.machine.frame.sessions) t)
    full n e false t i =
        let closed : is_open g.machine.frame n ≡ false = open_seat g k n ∙ not_true (is_begun g.seats n) (true-find (λ j. not (is_begun g.seats j)) (count_to most_seats) n e) in
        let none : refusal g.machine n (begin role) ≡ None = begin_refusal (is_open g.machine.frame n) (is_some (role_of g.machine.frame.rights role)) (nat_le 256 (length g.machine.frame.sessions)) closed known t in
        absurd (not_None-Some n (sym (ap (λ z. cond z (Some n) None) (accepts g.machine n role (refusal g.machine n (begin role)) none)) ∙ i))
      where
        not_true : (d : Bool) → not d ≡ true → d ≡ false
        not_true true j = absurd (false≢true j)
        not_true false j = refl

    by : (o : Option ℕ) → next_seat g.seats ≡ o → option_and_then (λ n. cond (is_accepted (reply_to g (in_session n (begin role)))) (Some n) None) o ≡ None → most_seats ≤ length g.seats
    by None e i = all_seated most_seats g.seats e
    by (Some n) e i = full n e (nat_le 256 (length g.machine.frame.sessions)) refl i

-- ---- the reply to a subscribe

begun_true : (g : Gate) (c : Client) (id : Option Data) (rel : Name) (n : ℕ) → ActsAs g.machine n c.role → IsSoundGate g → IsKept g → IsReadingReply g c id rel (begun_reply g c id n rel)
begun_true g c id rel n acts b k = record {
  sessions = g.machine.frame.sessions;
  reply = reply_to g (in_session n (subscribe rel));
  is = (n, acts, refl);
  place = places g b k n;
  told = refl;
}

begun_to : (s : State) (n : ℕ) (role : Name) (o : Option Refusal) → o ≡ None → (outcome s (in_session n (begin role)) o).state ≡ settled (begin role) (after s n (begin role))
begun_to s n role None h = refl
begun_to s n role (Some r) h = absurd (not_None-Some r h)

further_true : Sounds → (g : Gate) (c : Client) (id : Option Data) (rel : Name) (n : ℕ) → begun_for g c.role ≡ Some n → IsSoundGate g → IsKept g → IsReadingReply g c id rel (begun_reply (seated g n c.role) c id n rel)
further_true sounds g c id rel n e b k = record {
  sessions = (after g.machine n (begin c.role)).frame.sessions;
  reply = reply_in (step w (in_session n (subscribe rel))).lines;
  is = (n, subst (λ s. ActsAs s n c.role) same (ActsAs-begun_for sounds g c.role n e), refl);
  place = places g b k n;
  told = ap (λ s. reading_told s c id rel (reply_in (step s (in_session n (subscribe rel))).lines)) same ∙ alike (reply_in (step w (in_session n (subscribe rel))).lines);
}
  where
    w : State
    w = record g.machine { frame = record g.machine.frame { sessions = (after g.machine n (begin c.role)).frame.sessions } }

    same : (seated g n c.role).machine ≡ w
    same = begun_to g.machine n c.role (refusal g.machine n (begin c.role)) (refusal-begun_for g c.role n e) ∙ begun_state g.machine n c.role b.state

    alike : (r : Reply) → reading_told w c id rel r ≡ reading_told g.machine c id rel r
    alike (subscribed t) = refl
    alike done = refl
    alike (refused r) = refl

known_seat : (g : Gate) → IsSoundGate g → (role : Name) → is_some (seat_of g.seats role) ≡ true → is_some (role_of g.machine.frame.rights role) ≡ true
known_seat g b role h = by (seat_of g.seats role) refl h
  where
    by : (o : Option ℕ) → seat_of g.seats role ≡ o → is_some o ≡ true → is_some (role_of g.machine.frame.rights role) ≡ true
    by None e k = absurd (false≢true k)
    by (Some n) e k = ap is_some (ActsAs-seat_of g b role n e).known

at_least : (m n : ℕ) → nat_lt n m ≡ false → m ≤ n
at_least m n h = grind (arith, nat_tests)

abbrev Reads : Gate → Client → Option Data → Name → Told → Type 0
Reads g c id rel t = (IsFull g c rel × (t ≡ replied id (refused too_many))) ⊎ IsReadingReply g c id rel t

first_true : Sounds → (g : Gate) (c : Client) (id : Option Data) (rel : Name) → is_some (seat_of g.seats c.role) ≡ true → feed_for g.feeds c.role rel ≡ None → IsSoundGate g → IsKept g → Reads g c id rel (first_reply g c id c.role rel)
first_true sounds g c id rel seat new b k = by (room_for g.seats g.feeds c.role) refl
  where
    further : room_for g.seats g.feeds c.role ≡ None → (o : Option ℕ) → begun_for g c.role ≡ o → Reads g c id rel (if_some o (replied id (refused too_many)) (λ n. begun_reply (seated g n c.role) c id n rel))
    further full None e = inl (inr (new, AreFull-no_room g.seats g.feeds c.role full, le-begun_for_none g c.role b k (known_seat g b c.role seat) e), refl)
    further full (Some n) e = inr (further_true sounds g c id rel n e b k)

    by : (o : Option ℕ) → room_for g.seats g.feeds c.role ≡ o
        → Reads g c id rel (if_some o (if_some (begun_for g c.role) (replied id (refused too_many)) (λ n. begun_reply (seated g n c.role) c id n rel)) (λ n. begun_reply g c id n rel))
    by None e = further e (begun_for g c.role) refl
    by (Some n) e = inr (begun_true g c id rel n (ActsAs-room_for g b c.role n e) b k)

read_true : Sounds → (g : Gate) (c : Client) (id : Option Data) (rel : Name) → is_some (seat_of g.seats c.role) ≡ true → IsSoundGate g → IsKept g → Reads g c id rel (read_reply g c id rel)
read_true sounds g c id rel seat b k = test (nat_lt (length c.subs) most_subs) refl
  where
    by : (o : Option Feed) → feed_for g.feeds c.role rel ≡ o → Reads g c id rel (if_some o (first_reply g c id c.role rel) (λ f. begun_reply g c id f.session f.rel))
    by None e = first_true sounds g c id rel seat e b k
    by (Some f) e =
        let p = ActsAs-feed_for g.machine c.role rel g.feeds f b.feeds e in
        inr (subst (λ r. IsReadingReply g c id rel (begun_reply g c id f.session r)) (sym p.2) (begun_true g c id rel f.session (subst (ActsAs g.machine f.session) p.1 p.0) b k))

    test : (t : Bool) → nat_lt (length c.subs) most_subs ≡ t → Reads g c id rel (cond t (if_some (feed_for g.feeds c.role rel) (first_reply g c id c.role rel) (λ f. begun_reply g c id f.session f.rel)) (replied id (refused too_many)))
    test true e = by (feed_for g.feeds c.role rel) refl
    test false e = inl (inl (at_least most_subs (length c.subs) e), refl)

-- ---- the reply to a request that changes what is shared

carried_true : (g : Gate) (c : Client) (q : Request) → q.role ≡ c.role → is_some (seat_of g.seats c.role) ≡ true → IsSoundGate g → IsSharedReply g c q.act (carried_reply g q)
carried_true g c q role seat b = by (has_shape_room g q.act) refl (seat_of g.seats q.role) refl
  where
    by : (t : Bool) → has_shape_room g q.act ≡ t → (o : Option ℕ) → seat_of g.seats q.role ≡ o
        → IsSharedReply g c q.act (cond t (if_some o (refused no_session) (λ n. reply_to g (in_session n q.act))) (refused limit))
    by true e None f = absurd (false≢true (sym (ap is_some f) ∙ (ap (λ r. is_some (seat_of g.seats r)) role ∙ seat)))
    by true e (Some n) f = inl (e, (n, subst (ActsAs g.machine n) role (ActsAs-seat_of g b q.role n f), refl))
    by false e o f = inr (e, refl)

-- its name stands one further
place_more : (g : Gate) (q : Request) (a : Ask) (r : Reply) → is_shared q.act ≡ true → place_text (place_of (entered g (entries_of (next_position g) q (Some a) r)) a.holder) ≡ place_after g a.holder 1
place_more g q a r h =
    place_text-place_after (entered g (entries_of (next_position g) q (Some a) r)) a.holder
    ∙ (let n : count_of (entered g (entries_of (next_position g) q (Some a) r)) a.holder + 0 ≡ count_of g a.holder + 1 = omega (arith, more) in
    λ i. place_text (record { epoch = (place_at g.head a.holder).epoch; count = n i }))
  where
    e : Entry
    e = record { requests = cond (is_accepted r) (q ∷ []) []; names = answering (Some a) r; position = next_position g }

    one : entries_of (next_position g) q (Some a) r ≡ record { requests = cond (is_accepted r) (q ∷ []) []; names = answering (Some a) r; position = next_position g } ∷ []
    one = ap (λ t. cond (t && (is_accepted r || true)) (e ∷ []) []) h ∙ by (is_accepted r)
      where
        by : (t : Bool) → cond (true && (t || true)) (e ∷ []) [] ≡ e ∷ []
        by true = refl
        by false = refl

    names : names_by (entered g (entries_of (next_position g) q (Some a) r)) a.holder ≡ names_by g a.holder ++ record { ask = a; refused = not (is_accepted r); answer = answer_text r } ∷ []
    names = ap (λ es. filter (λ (x : Named). bytes_eq x.ask.holder a.holder) (names_in (g.entries ++ es))) one
        ∙ (ap (filter (λ (x : Named). bytes_eq x.ask.holder a.holder)) (flat_map-append (λ (x : Entry). x.names) g.entries (e ∷ []))
        ∙ (filter-append (λ (x : Named). bytes_eq x.ask.holder a.holder) (names_in g.entries) (answering (Some a) r ++ [])
        ∙ ap (λ t. names_by g a.holder ++ cond t (record { ask = a; refused = not (is_accepted r); answer = answer_text r } ∷ []) []) ((bytes_eq-Decides a.holder a.holder).1 refl)))

    more : length (names_by (entered g (entries_of (next_position g) q (Some a) r)) a.holder) ≡ length (names_by g a.holder) + 1
    more = ap length names ∙ length-append (names_by g a.holder) (record { ask = a; refused = not (is_accepted r); answer = answer_text r } ∷ [])

named_true : (g : Gate) (c : Client) (id : Option Data) (q : Request) (a : Ask) → MayBeDone g a → (is_follower g ≡ false → (number : ℕ) → HasToWait g a number → ⊥)
    → q.role ≡ c.role → is_shared q.act ≡ true → is_some (seat_of g.seats c.role) ≡ true → IsSoundGate g
    → IsNamedReply g c id q a (decided_reply g id q (Some a)) (decided_added g q (Some a))
named_true g c id q a may waits_not role shared seat b = by (is_follower g) refl
  where
    r : Reply
    r = carried_reply g q

    by : (t : Bool) → is_follower g ≡ t → IsNamedReply g c id q a (cond t (undecided id 100) (done_reply g id q (Some a) (carried_reply g q))) (cond t [] (entries_of (next_position g) q (Some a) (carried_reply g q)))
    by true e = waits 100 may (elsewhere e)
    by false e = subst (λ at. IsNamedReply g c id q a (answered id false at (answer_text (carried_reply g q))) (entries_of (next_position g) q (Some a) (carried_reply g q))) (sym (place_more g q a r shared))
        (is_done r may (waits_not e) (carried_true g c q role seat b))

verdict_true : (g : Gate) → AreNew g → (c : Client) (id : Option Data) (q : Request) (a : Ask) (v : Verdict) → Reason (names_of g) a v
    → q.role ≡ c.role → is_shared q.act ≡ true → is_some (seat_of g.seats c.role) ≡ true → IsSoundGate g
    → IsNamedReply g c id q a (verdict_reply g id q a v) (verdict_added g q a v)
verdict_true g new c id q a _ (is_carried f w d) role shared seat b = named_true g c id q a (MayBeDone-IsFree g a new f) (λ e. not_HasToWait g a e w d) role shared seat b
verdict_true g new c id q a _ (is_again x f t) role shared seat b =
    subst (λ at. IsNamedReply g c id q a (answered id true at x.answer) []) (sym (place_text-place_after g a.holder))
    (is_repeated x.answer (IsAnswer-find_named g a x f t))
verdict_true g new c id q a _ (is_another x f t) role shared seat b = is_left 101 (NoneAnswers-other_digest g a new x f t) (IsBarred-other_digest g a x f t)
verdict_true g new c id q a _ (is_late n p t) role shared seat b = is_left 102 (NoneAnswers-remembered_by g a n) (IsBarred-late g a p t)
verdict_true g new c id q a _ (is_foreign n t) role shared seat b = is_left (number_here g 103) (NoneAnswers-remembered_by g a n) (IsBarred-other_epoch g a t)
verdict_true g new c id q a _ (is_ahead f t) role shared seat b = waits (number_here g 104) (MayBeDone-IsFree g a new f) (HasToWait-ahead g a t)
verdict_true g new c id q a _ (has_to_wait f t) role shared seat b = waits (number_here g 104) (MayBeDone-IsFree g a new f) (HasToWait-is_over g a t)

shared_true : (g : Gate) → AreNew g → (c : Client) (id : Option Data) (q : Request) (claim : Option Claim) → q.role ≡ c.role → is_shared q.act ≡ true → is_some (seat_of g.seats c.role) ≡ true → IsSoundGate g
    → IsReplyToShared g c id q claim (shared_reply g c id q claim) (shared_added g c q claim)
shared_true g new c id q (Some k) role shared seat b = let a = asked_by c q.line k in verdict_true g new c id q a (verdict (names_of g) a) (Reason-verdict (names_of g) a) role shared seat b
shared_true g new c id q None role shared seat b = by (is_some g.head.log) refl
  where
    by : (t : Bool) → is_some g.head.log ≡ t
        → IsReplyToShared g c id q None (cond t (denied id 100) (done_reply g id q None (carried_reply g q))) (cond t [] (entries_of (next_position g) q None (carried_reply g q)))
    by true e = inl (e, refl, refl)
    by false e = inr (carried_reply g q, log_none g.head.log e, carried_true g c q role seat b, refl, refl)

-- ---- the reply to a message

module _ (sounds : Sounds) (g : Gate) (new : AreNew g) (slots : Slots) (c : Client) (seat : is_some (seat_of g.seats c.role) ≡ true) (b : IsSoundGate g) (k : IsKept g) where
  abbrev h : Gate
  h = record g { clients = slots }

  other_true : (id : Option Data) (text : List ℕ) (act : Act) → is_shared act ≡ true
      → IsReplyToShared g c id (request_of c text act) (claim_said text) (shared_reply (record g { clients = slots }) c id (request_of c text act) (claim_said text))
      (shared_added (record g { clients = slots }) c (request_of c text act) (claim_said text))
  other_true id text act s = shared_true g new c id (request_of c text act) (claim_said text) refl s seat b

  act_true : (id : Option Data) (text : List ℕ) (act : Act) → IsReplyToAct g c id text act (act_reply (record g { clients = slots }) c id text act) (act_added (record g { clients = slots }) c text act)
  act_true id text (begin role) = (refl, refl)
  act_true id text finish = (refl, refl)
  act_true id text (subscribe rel) = (refl, read_true sounds g c id rel seat b k)
  act_true id text (unsubscribe own) = (refl, refl)
  act_true id text act = other_true id text act refl

  pub said_true : (text : List ℕ) (s : Message) → IsReplyTo g c text s (said_reply (record g { clients = slots }) c text s) (said_added (record g { clients = slots }) c text s)
  said_true text no_json = (refl, refl)
  said_true text too_long = (refl, refl)
  said_true text no_object = (refl, refl)
  said_true text (no_request id why) = (refl, refl)
  said_true text (request id act) = by (may_have (claim_said text) act) refl
    where
      by : (t : Bool) → may_have (claim_said text) act ≡ t
          → IsReplyTo g c text (request id act) (cond t (act_reply (record g { clients = slots }) c id text act) (unasked id (unknown (codes "once")))) (cond t (act_added (record g { clients = slots }) c text act) [])
      by true e = inl (e, act_true id text act)
      by false e = inr (e, refl, refl)

-- ---- by an event

-- what a message that is heard adds is what its reply says
added_true : (g : Gate) (e : Event) (m : ℕ) (c : Client) (text : List ℕ) → g.dead ≡ false → client_at g.clients m ≡ Some c → IsOwn m c e text
    → added_by g e ≡ said_added (asked g m text) c text (said_by text)
added_true g e m c text live t o =
    ap (drop (length g.entries)) (ap (λ (x : Gate). x.entries) (next-IsOwn g e m c text live t o) ∙ entries-done_for (asked g m text) m c text (said_by text))
    ∙ drop-append_front g.entries (said_added (asked g m text) c text (said_by text))

-- a client is told first the reply to its message, and others are told none
pub AreReplied-IsKept : Sounds → (g : Gate) (e : Event) → IsSoundGate g → IsKept g → AreNew g → g.dead ≡ false → AreReplied g e
AreReplied-IsKept sounds g e b k new live = record {
  own = λ m c d x y text u.
      let o = IsOwn-heard_by m c e text u in
      let a = OwnAnswer-IsOwn g e m c d text live x.there y.there o in
      let seat = k.shared.seated c.role (has_role-client_at g.clients m c x.there) in (
        said_reply (asked g m text) c text (said_by text),
        a.others,
        told_by-OwnAnswer g m c text d a ∙ ap (λ z. z ++ said_reply (asked g m text) c text (said_by text) ∷ a.others) (a.first (BeginsQuietly-IsSoundState (asked g m text) b.state)),
        subst (IsReplyTo g c text (said_by text) (said_reply (asked g m text) c text (said_by text))) (sym (added_true g e m c text live x.there o))
            (said_true sounds g new (asked g m text).clients c seat b k text (said_by text)),
        a.alone,
      );
  others = λ m c d x y u. replies-heard_by g e m c d live x y u;
}
