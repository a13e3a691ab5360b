-- Whatever happens, sessions and subscriptions of the machine are those of the gateway, and each session has room for what is asked once more.
use Rattle.std.proofs.Common.{◌≡◌, ◌⊎◌, inl, inr, ℕ, zero, suc, ◌<◌, ◌≤◌, Bool, true, false, not, cond, ◌||◌, List, [], ◌∷◌, ◌++◌, length, map, set, replicate, Option, Some, None, is_some, option_map, refl, ap, ◌∙◌, sym, subst, arith}
use Rattle.std.specs.Prelude.{◌==◌, ◌&&◌, bytes_eq, filter, find, nat_lt, codes}
use Rattle.std.specs.List.{AllByRecursion, list_any}
use Rattle.std.proofs.lemmas.Bool.{false≢true}
use Rattle.std.proofs.lemmas.Slice.Eq.{bytes_eq-Decides}
use Rattle.serde_json.specs.Data.{Data}
use Rattle.iv_rows.specs.Options.{if_some}
use Rattle.iv_access.specs.Rights.{Name}
use Rattle.iv_machine.specs.Act.{Act, begin, finish, subscribe, unsubscribe, Command, Reply, done, subscribed, refused, too_many, unknown_subscription}
use Rattle.iv_machine.specs.Machine.{step, Outcome}
use Rattle.iv_machine.specs.State.{State, start}
use Rattle.iv_message.specs.Message.{Message, no_json, too_long, no_object, no_request, request, unknown}
use Rattle.iv_message.specs.Told.{Told, replied, fault, unasked, settled, granted}
use Rattle.iv_clients.specs.Bounds.{most_feeds, most_subs}
use Rattle.iv_clients.specs.Clients.{Client, Shown, Slots, Sub, answered, at_all, at_client, beating, checked, client_at, closing, dropping, followed_by, fresh, handing, has_role, is_followed, is_slow, may_say, moved, opens, released, saying, settling, telling, told_one, own_lines}
use Rattle.iv_clients.specs.Feeds.{Feed, Seat, ends_in, feed_for, feed_of, is_of_role, is_reading, room_for, seat_of, without_seat}
use Rattle.iv_records.specs.Journal.{Entry, said_by, shape_for, Request, claim_said, requests_in}
use Rattle.iv_clients.specs.Tokens.{Token}
use Rattle.iv_clients.proofs.Slots.{client_at-at_client, same-Some, not_None-Some}
use Rattle.iv_gate.specs.Events.{Event, presented, message, gone, known, ticked, synced, handed, failed, happens, next, arrived, forgave, led}
use Rattle.iv_gate.specs.Gate.{Gate, acts, all_rested, all_swept, begun_for, closes, done_for, entered, has_session, hears, in_session, is_needed, joined, joined_by, joins, ran, reads, reads_first, reply_to, done_in, rested, token_for, said, seated, settles, shut, subscribes, swept, tells, went, with_session, informs, entries_of, at_text, shares, may_have, reply_told, replies_to, Head, went_on, next_position}
use Rattle.iv_gate.specs.Replies.{ActsAs}
use Rattle.iv_journal.specs.Journal.{Line}
use Rattle.iv_gate.specs.Restoring.{Restores, gate_at_start}
use Rattle.iv_gate.proofs.SoundRequests.{IsHeard, IsAsker-IsHeard, ActsAs-feed_for, IsSoundGate-seated}
use Rattle.iv_gate.proofs.FeedCounts.{AreFew, feeds_in, AreFew-joins, AreFew-filter, AreFew-subscribes, feed_of-feed_for, lt-begun_for, length-no_feed_for, lt-room_for, le-length_filter_filter}
use Rattle.iv_gate.proofs.FinishedSessions.{IsSoundGate-rested}
use Rattle.iv_gate.proofs.SameFeeds.{same-bytes_eq}
use Rattle.iv_gate.proofs.NewSubscriptions.{IsAsker, IsSoundGate-subscribes}
use Rattle.iv_gate.proofs.SoundSteps.{AllByRecursion-map, IsSoundGate-all_swept, IsSoundClient-said, AllByRecursion-filter, AllByRecursion-feed_of, IsSoundGate-at_client, IsSoundGate-swept}
use Rattle.iv_gate.proofs.SoundEvents.{AreEven, IsEven, IsSoundGate-set, dropped-may_say}
use Rattle.iv_gate.proofs.SeatsAndFeeds.{IsAlone, IsFed, IsShared, IsAlone-ActsAs, is_plain, numbers_in, seats_in, IsShared-at_all, IsShared-finish, IsShared-at_client, IsShared-ran, IsShared-seated, IsShared-shut, IsShared-subscribes, IsShared-stepped}
use Rattle.iv_gate.proofs.SoundCommands.{Adds, IsFeed, IsSoundGate, Sounds, seer, seer-telling, Seer}
use Rattle.iv_gate.proofs.NumberSums.{or-both_false}
use Rattle.iv_gate.proofs.EventMarks.{came_as, Opens-token_for, cond-same}
use Rattle.iv_gate.proofs.ShapeTexts.{cond-either}
use Rattle.iv_records.specs.Names.{Claim}
use Rattle.iv_once.specs.Names.{Ask}
use Rattle.iv_gate.proofs.RequestFates.{shares_so}
use Rattle.iv_gate.proofs.StepRelations.{request_of}
use Rattle.iv_steps.specs.Steps.{Fact, stepped}
use Rattle.iv_machine.specs.Sound.{IsSoundState}
use Rattle.iv_gate.specs.Arriving.{Step, entry_of, fact_of, fault_of, was_taken, landed, newly, takes}
use Rattle.iv_gate.proofs.StepsTaken.{IsBegun-all_carried}

-- what holds of a gateway besides that its clients are in step
pub record IsKept (g : Gate) : Type 0 where
  pub shared : IsShared g
  pub few : AreFew g.feeds

kept_one : (g : Gate) (m : ℕ) (f : Client → Client) → ((c : Client) → (f c).role ≡ c.role) → IsKept g → IsKept (record g { clients = at_client m f g.clients })
kept_one g m f k b = record { shared = IsShared-at_client g m f k b.shared; few = b.few }

kept_all : (g : Gate) (f : Client → Client) → ((c : Client) → (f c).role ≡ c.role) → IsKept g → IsKept (record g { clients = at_all f g.clients })
kept_all g f k b = record { shared = IsShared-at_all g f k b.shared; few = b.few }

kept_tells : (g : Gate) (m : ℕ) (t : Told) → IsKept g → IsKept (tells g m t)
kept_tells g m t b = kept_one g m (told_one g.entries t) (λ c. refl) b

pub role-settling : (es : List Entry) (c : Client) → (settling es c).role ≡ c.role
role-settling es c = cond-same (λ (x : Client). x.role) (c.owed) (record (told_one es settled c) { owed = false }) c c.role refl refl

kept_settles : (g : Gate) → IsKept g → IsKept (settles g)
kept_settles g b = kept_all g (settling g.entries) (role-settling g.entries) b

kept_informs : (g : Gate) (es : List Entry) → IsKept g → IsKept (informs g es)
kept_informs g es b = kept_all g (λ c. telling g.entries (shape_for c.role es) c) (λ c. ap (λ (v : Seer). v.role) (seer-telling g.entries (shape_for c.role es) c)) b

kept_plain : (g : Gate) (k : Command) → is_plain k.act ≡ true → IsSoundGate g → IsKept g → IsKept (ran g k)
kept_plain g k p s b = record { shared = IsShared-ran g k p s.state.numbers b.shared; few = AreFew-filter _ g.feeds b.few }

kept_seated : (g : Gate) (n : ℕ) (role : Name) → begun_for g role ≡ Some n → IsSoundGate g → IsKept g → IsKept (seated g n role)
kept_seated g n role e s b = record { shared = IsShared-seated g n role e s.state.numbers b.shared; few = AreFew-filter _ g.feeds b.few }

kept_subscribes : (g : Gate) (m : ℕ) (id : Option Data) (n : ℕ) (role rel : Name) → IsSoundGate g → length (feeds_in n g.feeds) < most_feeds
    → length (filter (is_reading role rel) g.feeds) ≡ 0 → IsKept g → IsKept (subscribes g m id n role rel)
kept_subscribes g m id n role rel s l z b = record { shared = IsShared-subscribes g m id n role rel s.state.numbers b.shared; few = AreFew-subscribes g m id n role rel s b.few l z }

shut_shared : (g : Gate) (f : Feed) → AllByRecursion (IsFeed g.machine) g.feeds → IsSoundGate g → (k : ℕ) → feed_of g.feeds k ≡ Some f → IsShared g → IsShared (shut g f)
shut_shared g f a s k h b = IsShared-shut g f (AllByRecursion-feed_of (IsFeed g.machine) g.feeds k f a h) s.state.numbers b

kept_swept : (g : Gate) (k : ℕ) → IsSoundGate g → IsKept g → IsKept (swept g k)
kept_swept g k s b = by (is_followed k g.clients) (feed_of g.feeds k) refl
  where
    by : (t : Bool) (o : Option Feed) → feed_of g.feeds k ≡ o → IsKept (cond t g (if_some o g (shut g)))
    by true o e = b
    by false None e = b
    by false (Some f) e = record { shared = shut_shared g f s.feeds s k e b.shared; few = AreFew-filter _ _ (AreFew-filter _ g.feeds b.few) }

kept_all_swept : Adds → Sounds → (g : Gate) (ks : List ℕ) → IsSoundGate g → IsKept g → IsKept (all_swept g ks)
kept_all_swept adds sounds g [] s b = b
kept_all_swept adds sounds g (k ∷ ks) s b = kept_all_swept adds sounds (swept g k) ks (IsSoundGate-swept adds sounds g k s) (kept_swept g k s b)

-- ---- sessions that are not needed

kept_rested : (g : Gate) (s : Seat) → IsAlone s g.seats → IsSoundGate g → IsKept g → IsKept (rested g s)
kept_rested g s a b k = by (is_needed g s) refl
  where
    by : (t : Bool) → (has_role s.role g.clients || list_any (λ (f : Feed). s.session == f.session) g.feeds) ≡ t → IsKept (cond t g (ran (record g { seats = without_seat s.session g.seats }) (in_session s.session finish)))
    by true h = k
    by false h =
        record { shared = IsShared-finish g s a (or-both_false (has_role s.role g.clients) _ h).0 b.state.numbers k.shared; few = AreFew-filter _ g.feeds k.few }

alone_left : (g : Gate) (x s : Seat) → IsAlone x g.seats → IsAlone x (rested g s).seats
alone_left g x s a = by (is_needed g s)
  where
    by : (t : Bool) → IsAlone x (cond t g (ran (record g { seats = without_seat s.session g.seats }) (in_session s.session finish))).seats
    by true = a
    by false = AllByRecursion-filter (λ (y : Seat). (x.session == y.session) ≡ true → y.role ≡ x.role) (λ (y : Seat). not (s.session == y.session)) g.seats a

kept_all_rested : Adds → Sounds → (g : Gate) (ss : List Seat) → AllByRecursion (λ x. IsAlone x g.seats) ss → IsSoundGate g → IsKept g → IsKept (all_rested g ss)
kept_all_rested adds sounds g [] a b k = k
kept_all_rested adds sounds g (s ∷ ss) a b k = kept_all_rested adds sounds (rested g s) ss
    (AllByRecursion-map {P = λ x. IsAlone x g.seats} {Q = λ x. IsAlone x (rested g s).seats} (λ x h. alone_left g x s h) ss a.1) (IsSoundGate-rested adds sounds g s b) (kept_rested g s a.0 b k)

-- ---- messages

kept_joined : (g : Gate) (m : ℕ) (o p : Option Feed) → ((f : Feed) → o ≡ Some f → IsFeed g.machine f) → IsSoundGate g → IsShared g → IsShared (joined g m o p)
kept_joined g m (Some t) (Some k) there s b = by (is_reading t.role t.rel k && not (t.number == k.number))
  where
    h : Gate
    h = record g { clients = at_client m (moved t.number k.number) g.clients }

    by : (d : Bool) → IsShared (cond d (shut (record g { clients = at_client m (moved t.number k.number) g.clients }) t) g)
    by true = IsShared-shut h t (there t refl) s.state.numbers (IsShared-at_client g m (moved t.number k.number) (λ c. refl) b)
    by false = b
kept_joined g m (Some t) None there s b = b
kept_joined g m None p there s b = b

kept_joined_by : (g : Gate) (m k : ℕ) (r : Reply) → IsSoundGate g → IsShared g → IsShared (joined_by g m k r)
kept_joined_by g m k (subscribed t) s b = kept_joined g m (feed_of g.feeds t) (feed_of g.feeds k) (λ f e. AllByRecursion-feed_of (IsFeed g.machine) g.feeds t f s.feeds e) s b
kept_joined_by g m k done s b = b
kept_joined_by g m k (refused r) s b = b

kept_joins : Adds → Sounds → (g : Gate) (m : ℕ) (id : Option Data) (f : Feed) → ActsAs g.machine f.session f.role → ((c : Client) → client_at g.clients m ≡ Some c → IsAsker c id f.role f.rel)
    → feed_of g.feeds f.number ≡ Some f → IsSoundGate g → IsKept g → IsKept (joins g m id f)
kept_joins adds sounds g m id f acts same there s b = record {
  shared = kept_joined_by (subscribes g m id f.session f.role f.rel) m f.number (reply_to g (in_session f.session (subscribe f.rel)))
      (IsSoundGate-subscribes adds sounds g m id f.session f.role f.rel acts same s)
      (IsShared-subscribes g m id f.session f.role f.rel s.state.numbers b.shared);
  few = AreFew-joins g m id f s b.few there;
}

kept_first : Adds → Sounds → (g : Gate) (m : ℕ) (id : Option Data) (role rel : Name) → IsSoundGate g → length (filter (is_reading role rel) g.feeds) ≡ 0 → IsKept g → IsKept (reads_first g m id role rel)
kept_first adds sounds g m id role rel s z b = by (room_for g.seats g.feeds role) refl
  where
    still_none : (n : ℕ) → length (filter (is_reading role rel) (seated g n role).feeds) ≡ 0
    still_none n = below (length (filter (is_reading role rel) (seated g n role).feeds)) (length (filter (is_reading role rel) g.feeds))
        (le-length_filter_filter (is_reading role rel) (λ (f : Feed). not (ends_in (step g.machine (in_session n (begin role))).lines f.number)) g.feeds) z
      where
        below : (x y : ℕ) → x ≤ y → y ≡ 0 → x ≡ 0
        below x y i j = omega (arith, i, j)

    further : (o : Option ℕ) → begun_for g role ≡ o → IsKept (if_some o (tells g m (replied id (refused too_many))) (λ n. subscribes (seated g n role) m id n role rel))
    further None e = kept_tells g m (replied id (refused too_many)) b
    further (Some n) e = kept_subscribes (seated g n role) m id n role rel (IsSoundGate-seated adds sounds g role n e s) (lt-begun_for g role n e s) (still_none n) (kept_seated g n role e s b)

    by : (o : Option ℕ) → room_for g.seats g.feeds role ≡ o
        → IsKept (if_some o (if_some (begun_for g role) (tells g m (replied id (refused too_many))) (λ n. subscribes (seated g n role) m id n role rel)) (λ n. subscribes g m id n role rel))
    by None e = further (begun_for g role) refl
    by (Some n) e = kept_subscribes g m id n role rel s (lt-room_for g.seats g.feeds role n e) z b

kept_reads : Adds → Sounds → (g : Gate) (m : ℕ) (c : Client) (id : Option Data) (rel : Name) → ((d : Client) → client_at g.clients m ≡ Some d → IsAsker d id c.role rel) → IsSoundGate g → IsKept g
    → IsKept (reads g m c id rel)
kept_reads adds sounds g m c id rel same s b = test (nat_lt (length c.subs) most_subs)
  where
    by : (o : Option Feed) → feed_for g.feeds c.role rel ≡ o → IsKept (if_some o (reads_first g m id c.role rel) (joins g m id))
    by None e = kept_first adds sounds g m id c.role rel s (length-no_feed_for c.role rel g.feeds e) b
    by (Some f) e =
        let p = ActsAs-feed_for g.machine c.role rel g.feeds f s.feeds e in
        kept_joins adds sounds g m id f p.0 (λ d t. subst (λ r. IsAsker d id r f.rel) (sym p.1) (subst (λ r. IsAsker d id c.role r) (sym p.2) (same d t))) (feed_of-feed_for g.feeds c.role rel f b.few.apart e) s b

    test : (t : Bool) → IsKept (cond t (if_some (feed_for g.feeds c.role rel) (reads_first g m id c.role rel) (joins g m id)) (tells g m (replied id (refused too_many))))
    test true = by (feed_for g.feeds c.role rel) refl
    test false = kept_tells g m (replied id (refused too_many)) b

kept_closes : (g : Gate) (m : ℕ) (c : Client) (id : Option Data) (own : ℕ) → IsSoundGate g → IsKept g → IsKept (closes g m c id own)
kept_closes g m c id own s b = by (followed_by c.subs own)
  where
    h : Gate
    h = record g { clients = at_client m (closing own) g.clients }

    i : Gate
    i = tells h m (replied id done)

    kept : IsKept i
    kept = kept_tells h m (replied id done) (kept_one g m (closing own) (λ d. refl) b)

    sweeps : (k : ℕ) (t : Bool) (o : Option Feed) → feed_of g.feeds k ≡ o → IsKept (cond t i (if_some o i (shut i)))
    sweeps k true o e = kept
    sweeps k false None e = kept
    sweeps k false (Some f) e = record {
      shared = IsShared-shut i f (AllByRecursion-feed_of (IsFeed g.machine) g.feeds k f s.feeds e) s.state.numbers kept.shared;
      few = AreFew-filter _ _ (AreFew-filter _ g.feeds b.few);
    }

    by : (o : Option ℕ) → IsKept (if_some o (tells g m (replied id (refused unknown_subscription))) (λ k. swept (tells (record g { clients = at_client m (closing own) g.clients }) m (replied id done)) k))
    by None = kept_tells g m (replied id (refused unknown_subscription)) b
    by (Some k) = sweeps k (is_followed k i.clients) (feed_of g.feeds k) refl

kept_replies : (g : Gate) (m : ℕ) (id : Option Data) (q : Request) (name : Option Ask) (r : Reply) → IsKept g → IsKept (replies_to g m id q name r)
kept_replies g m id q name r b = let h = entered g (entries_of (next_position g) q name r) in
    kept_tells h m (reply_told h id name r) (record { shared = record { sessions = b.shared.sessions; seated = b.shared.seated; fed = b.shared.fed }; few = b.few })

kept_requests : (g : Gate) (m : ℕ) (id : Option Data) (q : Request) (name : Option Ask) (n : ℕ) → is_plain q.act ≡ true → IsSoundGate g → IsKept g → IsKept (done_in g m id q name n)
kept_requests g m id q name n p s b =
    let k = in_session n q.act in let r = reply_to g k in let i = replies_to g m id q name r in let x = kept_replies g m id q name r b in
    kept_informs (ran i k) (entries_of (next_position g) q name r) (record { shared = IsShared-ran i k p s.state.numbers x.shared; few = AreFew-filter _ g.feeds b.few })

kept_shares : (g : Gate) (m : ℕ) (c : Client) (id : Option Data) (q : Request) (claim : Option Claim) → is_plain q.act ≡ true → IsSoundGate g → IsKept g → IsKept (shares g m c id q claim)
kept_shares g m c id q claim p s b = shares_so IsKept g m id q
    (record { tells = λ t a. kept_tells g m t b; does = λ name n e. kept_requests g m id q name n p s b; refuses = λ name r. kept_replies g m id q name (refused r) b }) c claim

kept_acts : Adds → Sounds → (g : Gate) (m : ℕ) (c : Client) (id : Option Data) (text : List ℕ) (act : Act) → said_by text ≡ request id act → ((d : Client) → client_at g.clients m ≡ Some d → IsHeard g m c text d)
    → IsSoundGate g → IsKept g → IsKept (acts g m c id text act)
kept_acts adds sounds g m c id text (begin role) said same s b = kept_tells g m (fault 2) b
kept_acts adds sounds g m c id text finish said same s b = kept_tells g m (fault 2) b
kept_acts adds sounds g m c id text (subscribe rel) said same s b = kept_reads adds sounds g m c id rel (λ d t. IsAsker-IsHeard g m c id text rel d said (same d t)) s b
kept_acts adds sounds g m c id text (unsubscribe own) said same s b = kept_closes g m c id own s b
kept_acts adds sounds g m c id text act said same s b = kept_shares g m c id (request_of c text act) (claim_said text) refl s b

-- whatever a client says
pub kept_done : Adds → Sounds → (g : Gate) (m : ℕ) (c : Client) (text : List ℕ) (said : Message) → said_by text ≡ said → ((d : Client) → client_at g.clients m ≡ Some d → IsHeard g m c text d)
    → IsSoundGate g → IsKept g → IsKept (done_for g m c text said)
kept_done adds sounds g m c text no_json h same s b = kept_tells g m (fault 1) b
kept_done adds sounds g m c text too_long h same s b = kept_tells g m (fault 22) b
kept_done adds sounds g m c text no_object h same s b = kept_tells g m (fault 2) b
kept_done adds sounds g m c text (no_request id why) h same s b = kept_tells g m (unasked id why) b
kept_done adds sounds g m c text (request id act) h same s b =
    cond-either IsKept (may_have (claim_said text) act) (acts g m c id text act) (tells g m (unasked id (unknown (codes "once")))) (kept_acts adds sounds g m c id text act h same s b) (kept_tells g m (unasked id (unknown (codes "once"))) b)

-- ---- events

kept_hears : Adds → Sounds → (g : Gate) (m : ℕ) (c : Client) (text : List ℕ) → client_at g.clients m ≡ Some c → IsEven c → IsSoundGate g → IsKept g → IsKept (hears g m c text)
kept_hears adds sounds g m c text t even s b =
    let asked = record g { clients = at_client m (saying text) g.clients } in let did = done_for asked m c text (said_by text) in
    let there : client_at asked.clients m ≡ Some (saying text c) = client_at-at_client m (saying text) g.clients ∙ ap (option_map (saying text)) t in
    kept_one (settles did) m (answered c) (λ d. refl) (kept_settles did (kept_done adds sounds asked m c text (said_by text) refl
    (λ d e. subst (IsHeard asked m c text) (same-Some (saying text c) d (sym there ∙ e)) (record { role = refl; before = c.messages; messages = refl; pending = even }))
    (IsSoundGate-at_client g m (saying text) (λ d e live. IsSoundClient-said g.machine g.feeds (seer d) text (s.clients m d e live)) s) (kept_one g m (saying text) (λ d. refl) b)))

kept_said : Adds → Sounds → (g : Gate) (m : ℕ) (text : List ℕ) → AreEven g → IsSoundGate g → IsKept g → IsKept (said g m text)
kept_said adds sounds g m text even s b = by (client_at g.clients m) refl
  where
    test : (c : Client) → client_at g.clients m ≡ Some c → (t : Bool) → may_say c ≡ t → IsKept (cond t (hears g m c text) g)
    test c e true t = kept_hears adds sounds g m c text e (even m c (record { there = e; stays = dropped-may_say c t })) s b
    test c e false t = b

    by : (o : Option Client) → client_at g.clients m ≡ o → IsKept (if_some o g (λ c. cond (may_say c) (hears g m c text) g))
    by None e = b
    by (Some c) e = test c e (may_say c) refl

kept_with : (g : Gate) (role : Name) → IsSoundGate g → IsKept g → IsKept (with_session g role)
kept_with g role s b = by (seat_of g.seats role) (begun_for g role) refl
  where
    by : (o p : Option ℕ) → begun_for g role ≡ p → IsKept (if_some o (if_some p g (λ n. seated g n role)) (λ n. g))
    by None None e = b
    by None (Some n) e = kept_seated g n role e s b
    by (Some n) p e = b

seat_new : (seats : List Seat) (x : Seat) (role : Name) → is_of_role role x ≡ true → is_some (seat_of (seats ++ x ∷ []) role) ≡ true
seat_new [] x role h = ap (λ b. is_some (option_map (λ (s : Seat). s.session) (cond b (Some x) None))) h
seat_new (s ∷ ss) x role h = by (is_of_role role s) (seat_new ss x role h)
  where
    by : (b : Bool) → is_some (seat_of (ss ++ x ∷ []) role) ≡ true → is_some (option_map (λ (y : Seat). y.session) (cond b (Some s) (find (is_of_role role) (ss ++ x ∷ [])))) ≡ true
    by true k = refl
    by false k = k

-- the role has a seat then
with_seat : (g : Gate) (role : Name) → has_session g role ≡ true → is_some (seat_of (with_session g role).seats role) ≡ true
with_seat g role h = by (seat_of g.seats role) refl (begun_for g role) h
  where
    by : (o : Option ℕ) → seat_of g.seats role ≡ o → (p : Option ℕ) → (is_some o || is_some p) ≡ true → is_some (seat_of (if_some o (if_some p g (λ n. seated g n role)) (λ n. g)).seats role) ≡ true
    by (Some n) e p k = ap is_some e
    by None e (Some n) k = seat_new g.seats (record { session = n; role = role }) role ((bytes_eq-Decides role role).1 refl)
    by None e None k = absurd (false≢true k)

role_put : (slots : Slots) (m : ℕ) (es : List Entry) (t : Token) (name : Name) (at : List ℕ) → has_role name (set slots m (Some (fresh es t at))) ≡ true → (t.role ≡ name) ⊎ (has_role name slots ≡ true)
role_put [] m es t name at h = inr h
role_put (o ∷ os) zero es t name at h = by (bytes_eq t.role name) refl h
  where
    right : (a b : Bool) → b ≡ true → (a || b) ≡ true
    right true b k = refl
    right false b k = k

    by : (b : Bool) → bytes_eq t.role name ≡ b → (b || has_role name os) ≡ true → (t.role ≡ name) ⊎ ((if_some o false (λ (c : Client). bytes_eq c.role name) || has_role name os) ≡ true)
    by true e k = inl (same-bytes_eq t.role name e)
    by false e k = inr (right _ _ k)
role_put (o ∷ os) (suc m) es t name at h = by (if_some o false (λ (c : Client). bytes_eq c.role name)) h (role_put os m es t name at)
  where
    more : (t.role ≡ name) ⊎ (has_role name os ≡ true) → (t.role ≡ name) ⊎ (has_role name os ≡ true)
    more x = x

    by : (b : Bool) → (b || has_role name (set os m (Some (fresh es t at)))) ≡ true → (has_role name (set os m (Some (fresh es t at))) ≡ true → (t.role ≡ name) ⊎ (has_role name os ≡ true))
        → (t.role ≡ name) ⊎ ((b || has_role name os) ≡ true)
    by true k go = inr refl
    by false k go = go k

role_left : (slots : Slots) (m : ℕ) (name : Name) → has_role name (set slots m None) ≡ true → has_role name slots ≡ true
role_left [] m name h = h
role_left (o ∷ os) zero name h = right (if_some o false (λ (c : Client). bytes_eq c.role name)) h
  where
    right : (a : Bool) → has_role name os ≡ true → (a || has_role name os) ≡ true
    right true k = refl
    right false k = k
role_left (o ∷ os) (suc m) name h = by (if_some o false (λ (c : Client). bytes_eq c.role name)) h (role_left os m name)
  where
    by : (b : Bool) → (b || has_role name (set os m None)) ≡ true → (has_role name (set os m None) ≡ true → has_role name os ≡ true) → (b || has_role name os) ≡ true
    by true k go = refl
    by false k go = go k

kept_came : (g : Gate) (m : ℕ) (token : List ℕ) (t : Token) → token_for g m token ≡ Some t → IsSoundGate g → IsKept g → IsKept (came_as g m t)
kept_came g m token t e s b = placed
  where
    h : Gate
    h = with_session g t.role

    k : IsKept h
    k = kept_with g t.role s b

    put : Gate
    put = record h { clients = set h.clients m (Some (fresh h.entries t (at_text h t))) }

    seats : (name : Name) → (t.role ≡ name) ⊎ (has_role name h.clients ≡ true) → is_some (seat_of h.seats name) ≡ true
    seats name (inl x) = subst (λ r. is_some (seat_of h.seats r) ≡ true) x (with_seat g t.role (Opens-token_for g m token t e).session)
    seats name (inr x) = k.shared.seated name x

    placed : IsKept put
    placed = record { shared = record { sessions = k.shared.sessions; seated = λ name i. seats name (role_put h.clients m h.entries t name (at_text h t) i); fed = k.shared.fed }; few = k.few }

kept_went : Adds → Sounds → (g : Gate) (m : ℕ) → IsSoundGate g → IsKept g → IsKept (went g m)
kept_went adds sounds g m s b = by (client_at g.clients m)
  where
    left : Gate
    left = record g { clients = set g.clients m None }

    left_kept : IsKept left
    left_kept = record { shared = record { sessions = b.shared.sessions; seated = λ name i. b.shared.seated name (role_left g.clients m name i); fed = b.shared.fed }; few = b.few }

    left_sound : IsSoundGate left
    left_sound = IsSoundGate-set g m None (λ d e. absurd (not_None-Some d (sym e))) s

    gone_as : (c : Client) → IsKept (let h = all_swept left (map (λ s. s.feed) c.subs) in settles (all_rested h (filter (is_of_role c.role) h.seats)))
    gone_as c =
        let ks = map (λ (x : Sub). x.feed) c.subs in
        let h = all_swept left ks in let hs = IsSoundGate-all_swept adds sounds left ks left_sound in let ss = filter (is_of_role c.role) h.seats in
        kept_settles (all_rested h ss) (kept_all_rested adds sounds h ss
        (AllByRecursion-filter (λ (x : Seat). IsAlone x h.seats) (is_of_role c.role) h.seats (AllByRecursion-map {P = λ (x : Seat). ActsAs h.machine x.session x.role} {Q = λ (x : Seat). IsAlone x h.seats} (λ x a. IsAlone-ActsAs h.machine x h.seats a hs.seats) h.seats hs.seats))
        hs (kept_all_swept adds sounds left ks left_sound left_kept))

    by : (o : Option Client) → IsKept (if_some o g (λ c. let h = all_swept (record g { clients = set g.clients m None }) (map (λ s. s.feed) c.subs) in settles (all_rested h (filter (is_of_role c.role) h.seats))))
    by None = b
    by (Some c) = gone_as c

pub role-checked : (tokens : List Token) (c : Client) → (checked tokens c).role ≡ c.role
role-checked tokens c = cond-same (λ (x : Client). x.role) (opens tokens c) c (dropping c) c.role refl refl

pub role-released : (c : Client) → (released c).role ≡ c.role
role-released c = cond-same (λ (x : Client). x.role) (c.dropped || is_slow c) (dropping c) (record c { unsynced = []; sendable = c.sendable ++ c.unsynced }) c.role refl refl

pub role-handing : (c : Client) → (handing c).role ≡ c.role
role-handing c = cond-same (λ (x : Client). x.role) (length c.sendable == 0) c (record c { sendable = []; asked = 0; handed = c.handed ++ c.sendable ∷ [] }) c.role refl refl

-- what is not looked at changes
kept_as : (g h : Gate) → h.machine ≡ g.machine → h.seats ≡ g.seats → h.feeds ≡ g.feeds → h.clients ≡ g.clients → IsKept g → IsKept h
kept_as g h m s f c b = record {
  shared = record {
    sessions = ap (λ (x : State). numbers_in x.frame.sessions) m ∙ (b.shared.sessions ∙ ap seats_in (sym s));
    seated = λ role i. ap (λ x. is_some (seat_of x role)) s ∙ b.shared.seated role (ap (has_role role) (sym c) ∙ i);
    fed = subst (λ (x : State). AllByRecursion (IsFed h.feeds) x.frame.subscriptions) (sym m) (subst (λ x. AllByRecursion (IsFed x) g.machine.frame.subscriptions) (sym f) b.shared.fed);
  };
  few = subst AreFew (sym f) b.few;
}

-- a step
kept_landed : Sounds → (g : Gate) (e : Entry) (fs : List Fact) (o : Outcome) → stepped fs g.machine ≡ Some o → IsSoundGate g → IsKept g → IsKept (landed g e o)
kept_landed sounds g e fs o h s b =
    let now = entered g (e ∷ []) in let behind = went_on now o (λ c. own_lines g.feeds o.lines c.subs ++ map granted (newly g.machine.frame o.state.frame c.role)) in
    kept_settles (informs behind (e ∷ [])) (kept_informs behind (e ∷ []) (record { shared = IsShared-stepped sounds g (e ∷ []) fs o (λ c. own_lines g.feeds o.lines c.subs ++ map granted (newly g.machine.frame o.state.frame c.role)) h s.state b.shared; few = AreFew-filter _ g.feeds b.few }))

kept_takes : Sounds → (g : Gate) (x : Step) → IsSoundGate g → IsKept g → IsKept (takes g x)
kept_takes sounds g x s b = by (is_some (fault_of g x)) (was_taken g x)
  where
    lands : (o : Option Outcome) → stepped (map fact_of x.requests) g.machine ≡ o → IsKept (if_some o g (landed g (entry_of x)))
    lands None h = b
    lands (Some o) h = kept_landed sounds g (entry_of x) (map fact_of x.requests) o h s b

    by : (d p : Bool) → IsKept (cond d (record g { dead = true }) (cond p g (if_some (stepped (map fact_of x.requests) g.machine) g (landed g (entry_of x)))))
    by true p = kept_as g (record g { dead = true }) refl refl refl refl b
    by false true = b
    by false false = lands (stepped (map fact_of x.requests) g.machine) refl

kept_happens : Adds → Sounds → (g : Gate) (e : Event) → AreEven g → IsSoundGate g → IsKept g → IsKept (happens g e)
kept_happens adds sounds g (presented m token) even s b = by (token_for g m token) refl
  where
    by : (o : Option Token) → token_for g m token ≡ o → IsKept (if_some o g (came_as g m))
    by None e = b
    by (Some t) e = kept_came g m token t e s b
kept_happens adds sounds g (message m text) even s b = kept_said adds sounds g m text even s b
kept_happens adds sounds g (gone m) even s b = kept_went adds sounds g m s b
kept_happens adds sounds g (known tokens) even s b = kept_as (record g { clients = at_all (checked tokens) g.clients }) (happens g (known tokens)) refl refl refl refl (kept_all g (checked tokens) (role-checked tokens) b)
kept_happens adds sounds g ticked even s b = kept_all g (beating g.entries) (λ c. refl) b
kept_happens adds sounds g synced even s b = kept_as (record g { clients = at_all released g.clients }) (happens g synced) refl refl refl refl (kept_all g released role-released b)
kept_happens adds sounds g (handed m) even s b = kept_as (record g { clients = at_client m handing g.clients }) (happens g (handed m)) refl refl refl refl (kept_one g m handing role-handing b)
kept_happens adds sounds g (arrived st) even s b = kept_takes sounds g st s b
kept_happens adds sounds g led even s b = kept_as g (happens g led) refl refl refl refl b
kept_happens adds sounds g forgave even s b = kept_as g (happens g forgave) refl refl refl refl b
kept_happens adds sounds g failed even s b = kept_as g (happens g failed) refl refl refl refl b

pub IsKept-next : Adds → Sounds → (g : Gate) (e : Event) → AreEven g → IsSoundGate g → IsKept g → IsKept (next g e)
IsKept-next adds sounds g e even s b = by g.dead
  where
    by : (t : Bool) → IsKept (cond t g (happens g e))
    by true = b
    by false = kept_happens adds sounds g e even s b

-- ---- at the start

no_roles : (most : ℕ) (role : Name) → has_role role (replicate most None) ≡ false
no_roles zero role = refl
no_roles (suc n) role = no_roles n role

pub IsKept-Restores : Sounds → (cap : ℕ) → IsSoundState (start cap) → (tokens : List Token) (most : ℕ) (head : Head) (sent : List Shown) (journal : List Line) (g : Gate)
    → Restores (gate_at_start cap tokens most head sent) journal g → IsKept g
IsKept-Restores sounds cap b tokens most head sent journal g r =
    let x = IsBegun-all_carried sounds cap b (map fact_of (requests_in g.entries)) r.leads.state r.leads.accepted in
    subst IsKept (sym r.leads.gate) (record {
      shared = record {
        sessions = ap numbers_in x.sessions;
        seated = λ role h. absurd (false≢true (sym (no_roles most role) ∙ h));
        fed = subst (AllByRecursion (IsFed [])) (sym x.subscriptions) tt;
      };
      few = record { few = λ n. omega arith; apart = tt; once = λ role rel. omega arith };
    })
