-- Which sessions there are after an event.
use Rattle.std.proofs.Common.{◌≡◌, ℕ, Bool, true, false, not, cond, List, [], ◌∷◌, ◌++◌, length, map, set, Option, Some, None, option_map, refl, ap, ◌∙◌, sym, subst}
use Rattle.std.specs.Prelude.{◌==◌, ◌&&◌, filter, find, nat_lt, codes, is_some}
use Rattle.serde_json.specs.Data.{Data}
use Rattle.iv_rows.specs.Options.{if_some}
use Rattle.iv_access.specs.Rights.{Name}
use Rattle.iv_machine.specs.Act.{Act, begin, finish, subscribe, unsubscribe, Reply, done, subscribed, refused, too_many, unknown_subscription}
use Rattle.iv_message.specs.Message.{Message, no_json, too_long, no_object, no_request, request, unknown}
use Rattle.iv_message.specs.Told.{replied, unasked}
use Rattle.iv_clients.specs.Bounds.{most_feeds, most_subs}
use Rattle.iv_clients.specs.Clients.{Client, at_client, client_at, closing, followed_by, is_followed, may_say, moved, saying}
use Rattle.iv_clients.specs.Feeds.{Feed, Seat, feed_for, feed_of, has_room, is_of_role, is_reading, load, room_for, seat_of, without_seat}
use Rattle.iv_records.specs.Journal.{said_by, Request, claim_said}
use Rattle.iv_clients.proofs.Slots.{not_None-Some}
use Rattle.iv_gate.specs.Events.{Event, presented, message, gone, known, ticked, synced, handed, failed, happens, next, arrived, forgave, led}
use Rattle.iv_gate.specs.Gate.{Gate, acts, all_rested, all_swept, begun_for, closes, done_for, feed_begun, hears, in_session, is_needed, joined, joined_by, joins, ran, reads, reads_first, reply_to, rested, token_for, said, seated, settles, shut, subscribes, swept, tells, went, with_session, shares, may_have}
use Rattle.iv_gate.specs.Needed.{AreSeatsAfter, left, begun}
use Rattle.iv_gate.specs.Replies.{AreFull}
use Rattle.iv_gate.proofs.FeedCounts.{AreFull-no_room}
use Rattle.iv_gate.proofs.EventMarks.{came_as}
use Rattle.iv_gate.proofs.ShapeTexts.{cond-either}
use Rattle.iv_clients.specs.Tokens.{Token}
use Rattle.iv_gate.specs.Arriving.{Step, fault_of, was_taken, landed, entry_of, fact_of, takes}
use Rattle.iv_steps.specs.Steps.{stepped}
use Rattle.iv_machine.specs.Machine.{Outcome}
use Rattle.iv_records.specs.Names.{Claim}
use Rattle.iv_gate.proofs.RequestFates.{shares_so}
use Rattle.iv_gate.proofs.StepRelations.{request_of}

all_stay : {X : Type 0} (xs : List X) → filter (λ x. true) xs ≡ xs
all_stay [] = refl
all_stay (x ∷ xs) = ap (λ z. x ∷ z) (all_stay xs)

-- some of the sessions, or one more, of a role that has none with a place
pub data IsBehind (R : Name → Type 0) (g : Gate) : List Seat → Type 0 where
  stayed : (stays : Seat → Bool) → IsBehind R g (filter stays g.seats)
  further : (s : Seat) → AreFull g.seats g.feeds s.role → R s.role → IsBehind R g (g.seats ++ s ∷ [])

-- whom a session may be begun for by the event: who comes, and who says something
abbrev pub AreFor : (Name → Type 0) → Gate → Event → Type 0
AreFor R g (presented m token) = (t : Token) → token_for g m token ≡ Some t → R t.role
AreFor R g (message m text) = (c : Client) → client_at g.clients m ≡ Some c → R c.role
AreFor R g _ = Unit {0}

some_same : {X : Type 0} (o : Option X) (g h : Gate) (f : X → Gate) → h.seats ≡ g.seats → ((x : X) → (f x).seats ≡ g.seats) → (if_some o h f).seats ≡ g.seats
some_same None g h f a b = a
some_same (Some x) g h f a b = b x

test_same : (t : Bool) (g h i : Gate) → h.seats ≡ g.seats → i.seats ≡ g.seats → (cond t h i).seats ≡ g.seats
test_same true g h i a b = a
test_same false g h i a b = b

-- ---- steps that begin and finish none

begun_same : (g : Gate) (m : ℕ) (id : Option Data) (n : ℕ) (role rel : Name) (r : Reply) → (feed_begun g m id n role rel r).seats ≡ g.seats
begun_same g m id n role rel (subscribed t) = refl
begun_same g m id n role rel done = refl
begun_same g m id n role rel (refused r) = refl

subscribes_same : (g : Gate) (m : ℕ) (id : Option Data) (n : ℕ) (role rel : Name) → (subscribes g m id n role rel).seats ≡ g.seats
subscribes_same g m id n role rel = begun_same g m id n role rel (reply_to g (in_session n (subscribe rel)))

joined_same : (g : Gate) (m : ℕ) (o p : Option Feed) → (joined g m o p).seats ≡ g.seats
joined_same g m (Some t) (Some k) = test_same (is_reading t.role t.rel k && not (t.number == k.number)) g (shut (record g { clients = at_client m (moved t.number k.number) g.clients }) t) g refl refl
joined_same g m (Some t) None = refl
joined_same g m None p = refl

joined_by_same : (g : Gate) (m k : ℕ) (r : Reply) → (joined_by g m k r).seats ≡ g.seats
joined_by_same g m k (subscribed t) = joined_same g m (feed_of g.feeds t) (feed_of g.feeds k)
joined_by_same g m k done = refl
joined_by_same g m k (refused r) = refl

joins_same : (g : Gate) (m : ℕ) (id : Option Data) (f : Feed) → (joins g m id f).seats ≡ g.seats
joins_same g m id f =
    joined_by_same (subscribes g m id f.session f.role f.rel) m f.number (reply_to g (in_session f.session (subscribe f.rel))) ∙ subscribes_same g m id f.session f.role f.rel

swept_same : (g : Gate) (k : ℕ) → (swept g k).seats ≡ g.seats
swept_same g k = test_same (is_followed k g.clients) g g (if_some (feed_of g.feeds k) g (shut g)) refl (some_same (feed_of g.feeds k) g g (shut g) refl (λ f. refl))

pub seats-all_swept : (g : Gate) (ks : List ℕ) → (all_swept g ks).seats ≡ g.seats
seats-all_swept g [] = refl
seats-all_swept g (k ∷ ks) = seats-all_swept (swept g k) ks ∙ swept_same g k

closes_same : (g : Gate) (m : ℕ) (c : Client) (id : Option Data) (own : ℕ) → (closes g m c id own).seats ≡ g.seats
closes_same g m c id own =
    some_same (followed_by c.subs own) g (tells g m (replied id (refused unknown_subscription))) (λ k. swept (tells (record g { clients = at_client m (closing own) g.clients }) m (replied id done)) k)
    refl (λ k. swept_same (tells (record g { clients = at_client m (closing own) g.clients }) m (replied id done)) k)

same_shares : (g : Gate) (m : ℕ) (c : Client) (id : Option Data) (q : Request) (claim : Option Claim) → (shares g m c id q claim).seats ≡ g.seats
same_shares g m c id q claim = shares_so (λ (h : Gate). h.seats ≡ g.seats) g m id q (record { tells = λ t a. refl; does = λ name n e. refl; refuses = λ name r. refl }) c claim

-- ---- who comes, and who goes

none_with_room : (fs : List Feed) (role : Name) (xs : List Seat) → seat_of xs role ≡ None → room_for xs fs role ≡ None
none_with_room fs role [] h = refl
none_with_room fs role (x ∷ xs) h = by (is_of_role role x) refl h (none_with_room fs role xs)
  where
    by : (b : Bool) → is_of_role role x ≡ b → option_map (λ (s : Seat). s.session) (cond b (Some x) (find (is_of_role role) xs)) ≡ None → (seat_of xs role ≡ None → room_for xs fs role ≡ None)
        → option_map (λ (s : Seat). s.session) (cond (is_of_role role x && nat_lt (load fs x.session) most_feeds) (Some x) (find (has_room fs role) xs)) ≡ None
    by true q w more = absurd (not_None-Some x.session w)
    by false q w more = ap (λ b. option_map (λ (s : Seat). s.session) (cond (b && nat_lt (load fs x.session) most_feeds) (Some x) (find (has_room fs role) xs))) q ∙ more w

filter_twice : {X : Type 0} (p q : X → Bool) (xs : List X) → filter p (filter q xs) ≡ filter (λ x. q x && p x) xs
filter_twice p q [] = refl
filter_twice p q (x ∷ xs) = by (q x) (filter_twice p q xs)
  where
    by : (b : Bool) → filter p (filter q xs) ≡ filter (λ y. q y && p y) xs → filter p (cond b (x ∷ filter q xs) (filter q xs)) ≡ cond (b && p x) (x ∷ filter (λ y. q y && p y) xs) (filter (λ y. q y && p y) xs)
    by true more = ap (λ z. cond (p x) (x ∷ z) z) more
    by false more = more

abbrev pub Left : List Seat → List Seat → Type 0
Left xs ys = (stays : Seat → Bool) × (ys ≡ filter stays xs)

rested_left : (g : Gate) (s : Seat) → Left g.seats (rested g s).seats
rested_left g s = by (is_needed g s)
  where
    by : (t : Bool) → Left g.seats (cond t g (ran (record g { seats = without_seat s.session g.seats }) (in_session s.session finish))).seats
    by true = ((λ x. true), sym (all_stay g.seats))
    by false = ((λ x. not (s.session == x.session)), refl)

all_rested_left : (g : Gate) (ss : List Seat) → Left g.seats (all_rested g ss).seats
all_rested_left g [] = ((λ x. true), sym (all_stay g.seats))
all_rested_left g (s ∷ ss) =
    let a = rested_left g s in let b = all_rested_left (rested g s) ss in
    ((λ x. a.0 x && b.0 x), b.1 ∙ (ap (filter b.0) a.1 ∙ filter_twice b.0 a.0 g.seats))

-- ---- steps that begin one

module _ (R : Name → Type 0) where
  same : (g : Gate) → IsBehind R g g.seats
  same g = subst (IsBehind R g) (all_stay g.seats) (stayed (λ s. true))

  by_same : (g : Gate) (xs : List Seat) → xs ≡ g.seats → IsBehind R g xs
  by_same g xs e = subst (IsBehind R g) (sym e) (same g)

  by_one : (g h : Gate) (n : ℕ) (role : Name) → R role → room_for g.seats g.feeds role ≡ None → h.seats ≡ g.seats ++ record { session = n; role = role } ∷ [] → IsBehind R g h.seats
  by_one g h n role w r e = subst (IsBehind R g) (sym e) (further (record { session = n; role = role }) (AreFull-no_room g.seats g.feeds role r) w)

  first_behind : (g : Gate) (m : ℕ) (id : Option Data) (role rel : Name) → R role → IsBehind R g (reads_first g m id role rel).seats
  first_behind g m id role rel w = by (room_for g.seats g.feeds role) refl
    where
      one_more : room_for g.seats g.feeds role ≡ None → (o : Option ℕ) → IsBehind R g (if_some o (tells g m (replied id (refused too_many))) (λ n. subscribes (seated g n role) m id n role rel)).seats
      one_more r None = same g
      one_more r (Some n) = by_one g (subscribes (seated g n role) m id n role rel) n role w r (subscribes_same (seated g n role) m id n role rel)

      by : (o : Option ℕ) → room_for g.seats g.feeds role ≡ o
          → IsBehind R g (if_some o (if_some (begun_for g role) (tells g m (replied id (refused too_many))) (λ n. subscribes (seated g n role) m id n role rel)) (λ n. subscribes g m id n role rel)).seats
      by None r = one_more r (begun_for g role)
      by (Some n) r = by_same g (subscribes g m id n role rel).seats (subscribes_same g m id n role rel)

  reads_behind : (g : Gate) (m : ℕ) (c : Client) (id : Option Data) (rel : Name) → R c.role → IsBehind R g (reads g m c id rel).seats
  reads_behind g m c id rel w = test (nat_lt (length c.subs) most_subs)
    where
      by : (o : Option Feed) → IsBehind R g (if_some o (reads_first g m id c.role rel) (joins g m id)).seats
      by None = first_behind g m id c.role rel w
      by (Some f) = by_same g (joins g m id f).seats (joins_same g m id f)

      test : (t : Bool) → IsBehind R g (cond t (if_some (feed_for g.feeds c.role rel) (reads_first g m id c.role rel) (joins g m id)) (tells g m (replied id (refused too_many)))).seats
      test true = by (feed_for g.feeds c.role rel)
      test false = same g

  acts_behind : (g : Gate) (m : ℕ) (c : Client) (id : Option Data) (text : List ℕ) (act : Act) → R c.role → IsBehind R g (acts g m c id text act).seats
  acts_behind g m c id text (begin role) w = same g
  acts_behind g m c id text finish w = same g
  acts_behind g m c id text (subscribe rel) w = reads_behind g m c id rel w
  acts_behind g m c id text (unsubscribe own) w = by_same g (closes g m c id own).seats (closes_same g m c id own)
  acts_behind g m c id text act w = by_same g _ (same_shares g m c id (request_of c text act) (claim_said text))

  done_behind : (g : Gate) (m : ℕ) (c : Client) (text : List ℕ) (x : Message) → R c.role → IsBehind R g (done_for g m c text x).seats
  done_behind g m c text no_json w = same g
  done_behind g m c text too_long w = same g
  done_behind g m c text no_object w = same g
  done_behind g m c text (no_request id why) w = same g
  done_behind g m c text (request id act) w =
      cond-either (λ (h : Gate). IsBehind R g h.seats) (may_have (claim_said text) act) (acts g m c id text act) (tells g m (unasked id (unknown (codes "once")))) (acts_behind g m c id text act w) (same g)

  -- of two gateways with the same sessions and feeds
  like : (g h : Gate) (xs : List Seat) → h.seats ≡ g.seats → h.feeds ≡ g.feeds → IsBehind R h xs → IsBehind R g xs
  like g h _ e f (stayed stays) = subst (IsBehind R g) (ap (filter stays) (sym e)) (stayed stays)
  like g h _ e f (further s r w) = subst (IsBehind R g) (ap (λ z. z ++ s ∷ []) (sym e)) (further s (subst (λ z. z) (λ i. AreFull (e i) (f i) s.role) r) w)

  said_behind : (g : Gate) (m : ℕ) (text : List ℕ) → ((c : Client) → client_at g.clients m ≡ Some c → R c.role) → IsBehind R g (said g m text).seats
  said_behind g m text w = by (client_at g.clients m) w
    where
      test : (c : Client) → R c.role → (t : Bool) → IsBehind R g (cond t (hears g m c text) g).seats
      test c r true = let h = record g { clients = at_client m (saying text) g.clients } in like g h (done_for h m c text (said_by text)).seats refl refl (done_behind h m c text (said_by text) r)
      test c r false = same g

      by : (o : Option Client) → ((c : Client) → o ≡ Some c → R c.role) → IsBehind R g (if_some o g (λ c. cond (may_say c) (hears g m c text) g)).seats
      by None f = same g
      by (Some c) f = test c (f c refl) (may_say c)

  -- who comes, and who goes

  with_behind : (g : Gate) (role : Name) → R role → IsBehind R g (with_session g role).seats
  with_behind g role w = by (seat_of g.seats role) refl
    where
      one_more : seat_of g.seats role ≡ None → (o : Option ℕ) → IsBehind R g (if_some o g (λ n. seated g n role)).seats
      one_more e None = same g
      one_more e (Some n) = further (record { session = n; role = role }) (AreFull-no_room g.seats g.feeds role (none_with_room g.feeds role g.seats e)) w

      by : (o : Option ℕ) → seat_of g.seats role ≡ o → IsBehind R g (if_some o (if_some (begun_for g role) g (λ n. seated g n role)) (λ n. g)).seats
      by None e = one_more e (begun_for g role)
      by (Some n) e = same g

  came_behind : (g : Gate) (m : ℕ) (o : Option Token) → ((t : Token) → o ≡ Some t → R t.role) → IsBehind R g (if_some o g (came_as g m)).seats
  came_behind g m None w = same g
  came_behind g m (Some t) w = with_behind g t.role (w t refl)

  went_behind : (g : Gate) (m : ℕ) → IsBehind R g (went g m).seats
  went_behind g m = by (client_at g.clients m)
    where
      by : (o : Option Client) → IsBehind R g (if_some o g (λ c. let h = all_swept (record g { clients = set g.clients m None }) (map (λ s. s.feed) c.subs) in settles (all_rested h (filter (is_of_role c.role) h.seats)))).seats
      by None = same g
      by (Some c) =
          let h = all_swept (record g { clients = set g.clients m None }) (map (λ s. s.feed) c.subs) in let a = all_rested_left h (filter (is_of_role c.role) h.seats) in
          subst (IsBehind R g) (sym (a.1 ∙ ap (filter a.0) (seats-all_swept (record g { clients = set g.clients m None }) (map (λ s. s.feed) c.subs)))) (stayed a.0)

  takes_behind : (g : Gate) (s : Step) → IsBehind R g (takes g s).seats
  takes_behind g s = by (is_some (fault_of g s)) (was_taken g s) (stepped (map fact_of s.requests) g.machine)
    where
      by : (b d : Bool) (o : Option Outcome) → IsBehind R g (cond b (record g { dead = true }) (cond d g (if_some o g (landed g (entry_of s))))).seats
      by true d o = same g
      by false true o = same g
      by false false None = same g
      by false false (Some o) = same g

  happens_behind : (g : Gate) (e : Event) → AreFor R g e → IsBehind R g (happens g e).seats
  happens_behind g (presented m token) w = came_behind g m (token_for g m token) w
  happens_behind g (message m text) w = said_behind g m text w
  happens_behind g (gone m) w = went_behind g m
  happens_behind g (known tokens) w = same g
  happens_behind g ticked w = same g
  happens_behind g synced w = same g
  happens_behind g (handed m) w = same g
  happens_behind g (arrived s) w = takes_behind g s
  happens_behind g led w = same g
  happens_behind g forgave w = same g
  happens_behind g failed w = same g

  pub next_behind : (g : Gate) (e : Event) → AreFor R g e → IsBehind R g (next g e).seats
  next_behind g e w = by g.dead
    where
      by : (t : Bool) → IsBehind R g (cond t g (happens g e)).seats
      by true = same g
      by false = happens_behind g e w

-- ---- as the law says it

as_told : (g : Gate) (xs : List Seat) → IsBehind (λ role. Unit {0}) g xs → AreSeatsAfter g xs
as_told g _ (stayed stays) = left stays
as_told g _ (further s full r) = begun s full

for_any : (g : Gate) (e : Event) → AreFor (λ role. Unit {0}) g e
for_any g (presented m token) = λ role e. tt
for_any g (message m text) = λ c e. tt
for_any g (gone m) = tt
for_any g (known tokens) = tt
for_any g ticked = tt
for_any g synced = tt
for_any g (handed m) = tt
for_any g (arrived s) = tt
for_any g led = tt
for_any g forgave = tt
for_any g failed = tt

pub AreSeatsAfter-next : (g : Gate) (e : Event) → AreSeatsAfter g (next g e).seats
AreSeatsAfter-next g e = as_told g (next g e).seats (next_behind (λ role. Unit {0}) g e (for_any g e))
