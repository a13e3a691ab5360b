-- A relation of gateways that each step keeps, through all that an event does.
use Rattle.std.proofs.Common.{◌≡◌, ℕ, Bool, true, false, cond, not, List, [], ◌∷◌, ◌++◌, length, map, set, Option, Some, None, refl, ap, ◌∙◌, sym, subst, append-nil}
use Rattle.std.specs.Prelude.{◌==◌, ◌&&◌, codes, nat_lt, filter}
use Rattle.serde_json.specs.Data.{Data}
use Rattle.iv_rows.specs.Options.{if_some}
use Rattle.iv_access.specs.Rights.{Name}
use Rattle.iv_machine.specs.Act.{Act, begin, finish, subscribe, unsubscribe, Command, Refusal, Reply, done, subscribed, refused, too_many, unknown_subscription}
use Rattle.iv_message.specs.Message.{Message, no_json, too_long, no_object, no_request, request, unknown}
use Rattle.iv_message.specs.Told.{Told, replied, opened, fault, unasked}
use Rattle.iv_once.specs.Names.{Ask}
use Rattle.iv_clients.specs.Bounds.{most_subs}
use Rattle.iv_clients.specs.Clients as clients
use Rattle.iv_clients.specs.Clients.{Client, at_client, client_at, closing, followed_by, following, fresh, is_followed, may_say, moved, saying}
use Rattle.iv_clients.specs.Feeds.{Feed, Seat, feed_for, feed_of, is_of_role, is_reading, room_for, seat_of, without_feed, without_seat}
use Rattle.iv_records.specs.Journal.{Entry, Request, claim_said, is_shared, line_said, said_by}
use Rattle.iv_records.specs.Names.{Claim}
use Rattle.iv_clients.specs.Tokens.{Token}
use Rattle.iv_gate.specs.Gate.{Gate, acts, all_rested, all_swept, at_text, begun_for, came, closes, columns_in, done_for, entered, feed_begun, hears, in_session, is_needed, joined, joined_by, joins, may_have, next_own, ran, reads, reads_first, replies_to, reply_to, done_in, rested, said, seated, settles, shares, shut, subscribes, swept, tells, token_for, went, with_session, next_position, Head}
use Rattle.iv_gate.specs.Laws.{is_made}
use Rattle.iv_gate.proofs.RequestFates.{IsAside, refers, leaves, repeats, shares_so}
use Rattle.iv_gate.proofs.ShapeTexts.{cond-either}

-- what client c asks by a text
abbrev pub request_of : Client → List ℕ → Act → Request
request_of c text act = record { role = c.role; line = line_said text; act = act }

-- what each step keeps; client m alone is told what is its own. The commands are those that change nothing that is shared
pub record Steps (m : ℕ) (G : Gate → Gate → Type 0) : Type 0 where
  pub same : (g : Gate) → G g g
  pub chain : (g h i : Gate) → G g h → G h i → G g i
  pub run : (g : Gate) (k : Command) → is_shared k.act ≡ false → G g (ran g k)
  pub settle : (g : Gate) → G g (settles g)
  pub tell : (g : Gate) (t : Told) → is_made t ≡ false → G g (tells g m t)
  pub seat : (g : Gate) (seats : List Seat) → G g (record g { seats = seats })
  pub feed : (g : Gate) (feeds : List Feed) → G g (record g { feeds = feeds })
  pub follow : (g : Gate) (k : ℕ) → G g (record g { clients = at_client m (following k) g.clients })
  pub move : (g : Gate) (t k : ℕ) → G g (record g { clients = at_client m (moved t k) g.clients })
  pub close : (g : Gate) (own : ℕ) → G g (record g { clients = at_client m (closing own) g.clients })

module _ (m : ℕ) (G : Gate → Gate → Type 0) (kit : Steps m G) where
  some_step : {X : Type 0} (o : Option X) (g h : Gate) (f : X → Gate) → G g h → ((x : X) → G g (f x)) → G g (if_some o h f)
  some_step None g h f a b = a
  some_step (Some x) g h f a b = b x

  test_step : (b : Bool) (g h i : Gate) → G g h → G g i → G g (cond b h i)
  test_step true g h i a b = a
  test_step false g h i a b = b

  -- ---- sessions

  step_seated : (g : Gate) (n : ℕ) (role : Name) → G g (seated g n role)
  step_seated g n role =
      let h = record g { seats = g.seats ++ record { session = n; role = role } ∷ [] } in
      kit.chain g h (ran h (in_session n (begin role))) (kit.seat g (g.seats ++ record { session = n; role = role } ∷ [])) (kit.run h (in_session n (begin role)) refl)

  pub step_with : (g : Gate) (role : Name) → G g (with_session g role)
  step_with g role =
      some_step (seat_of g.seats role) g (if_some (begun_for g role) g (λ n. seated g n role)) (λ n. g)
      (some_step (begun_for g role) g g (λ n. seated g n role) (kit.same g) (λ n. step_seated g n role)) (λ n. kit.same g)

  pub step_rested : (g : Gate) (s : Seat) → G g (rested g s)
  step_rested g s =
      let h = record g { seats = without_seat s.session g.seats } in
      test_step (is_needed g s) g g (ran h (in_session s.session finish)) (kit.same g)
      (kit.chain g h (ran h (in_session s.session finish)) (kit.seat g (without_seat s.session g.seats)) (kit.run h (in_session s.session finish) refl))

  pub step_all_rested : (g : Gate) (ss : List Seat) → G g (all_rested g ss)
  step_all_rested g [] = kit.same g
  step_all_rested g (s ∷ ss) = kit.chain g (rested g s) (all_rested (rested g s) ss) (step_rested g s) (step_all_rested (rested g s) ss)

  -- ---- subscribing

  step_begun : (g : Gate) (id : Option Data) (n : ℕ) (role rel : Name) (r : Reply) → G g (feed_begun g m id n role rel r)
  step_begun g id n role rel (subscribed t) =
      let told = opened id (next_own g m) (columns_in g.machine rel) in let h = tells g m told in let i = record h { clients = at_client m (following t) h.clients } in
      let feeds = record { number = t; session = n; role = role; rel = rel } ∷ g.feeds in
      kit.chain g h (record i { feeds = feeds }) (kit.tell g told refl) (kit.chain h i (record i { feeds = feeds }) (kit.follow h t) (kit.feed i feeds))
  step_begun g id n role rel done = kit.tell g (replied id done) refl
  step_begun g id n role rel (refused r) = kit.tell g (replied id (refused r)) refl

  step_subscribes : (g : Gate) (id : Option Data) (n : ℕ) (role rel : Name) → G g (subscribes g m id n role rel)
  step_subscribes g id n role rel =
      let k = in_session n (subscribe rel) in let h = feed_begun g m id n role rel (reply_to g k) in
      kit.chain g h (ran h k) (step_begun g id n role rel (reply_to g k)) (kit.run h k refl)

  step_shut : (g : Gate) (f : Feed) → G g (shut g f)
  step_shut g f =
      let h = record g { feeds = without_feed f.number g.feeds } in let k = in_session f.session (unsubscribe f.number) in
      kit.chain g h (ran h k) (kit.feed g (without_feed f.number g.feeds)) (kit.run h k refl)

  step_joined : (g : Gate) (t k : Option Feed) → G g (joined g m t k)
  step_joined g (Some t) (Some k) =
      let h = record g { clients = at_client m (moved t.number k.number) g.clients } in
      test_step (is_reading t.role t.rel k && not (t.number == k.number)) g (shut h t) g (kit.chain g h (shut h t) (kit.move g t.number k.number) (step_shut h t)) (kit.same g)
  step_joined g (Some t) None = kit.same g
  step_joined g None k = kit.same g

  step_joined_by : (g : Gate) (k : ℕ) (r : Reply) → G g (joined_by g m k r)
  step_joined_by g k (subscribed t) = step_joined g (feed_of g.feeds t) (feed_of g.feeds k)
  step_joined_by g k done = kit.same g
  step_joined_by g k (refused r) = kit.same g

  step_joins : (g : Gate) (id : Option Data) (f : Feed) → G g (joins g m id f)
  step_joins g id f =
      let h = subscribes g m id f.session f.role f.rel in let r = reply_to g (in_session f.session (subscribe f.rel)) in
      kit.chain g h (joined_by h m f.number r) (step_subscribes g id f.session f.role f.rel) (step_joined_by h f.number r)

  step_first : (g : Gate) (id : Option Data) (role rel : Name) → G g (reads_first g m id role rel)
  step_first g id role rel =
      some_step (room_for g.seats g.feeds role) g
      (if_some (begun_for g role) (tells g m (replied id (refused too_many))) (λ n. subscribes (seated g n role) m id n role rel)) (λ n. subscribes g m id n role rel)
      (some_step (begun_for g role) g (tells g m (replied id (refused too_many))) (λ n. subscribes (seated g n role) m id n role rel)
      (kit.tell g (replied id (refused too_many)) refl)
      (λ n. kit.chain g (seated g n role) (subscribes (seated g n role) m id n role rel) (step_seated g n role) (step_subscribes (seated g n role) id n role rel)))
      (λ n. step_subscribes g id n role rel)

  pub step_reads : (g : Gate) (c : Client) (id : Option Data) (rel : Name) → G g (reads g m c id rel)
  step_reads g c id rel =
      test_step (nat_lt (length c.subs) most_subs) g (if_some (feed_for g.feeds c.role rel) (reads_first g m id c.role rel) (joins g m id)) (tells g m (replied id (refused too_many)))
      (some_step (feed_for g.feeds c.role rel) g (reads_first g m id c.role rel) (joins g m id) (step_first g id c.role rel) (λ f. step_joins g id f))
      (kit.tell g (replied id (refused too_many)) refl)

  -- ---- unsubscribing

  step_swept : (g : Gate) (k : ℕ) → G g (swept g k)
  step_swept g k =
      test_step (is_followed k g.clients) g g (if_some (feed_of g.feeds k) g (shut g)) (kit.same g)
      (some_step (feed_of g.feeds k) g g (shut g) (kit.same g) (λ f. step_shut g f))

  pub step_all_swept : (g : Gate) (ks : List ℕ) → G g (all_swept g ks)
  step_all_swept g [] = kit.same g
  step_all_swept g (k ∷ ks) = kit.chain g (swept g k) (all_swept (swept g k) ks) (step_swept g k) (step_all_swept (swept g k) ks)

  pub step_closes : (g : Gate) (c : Client) (id : Option Data) (own : ℕ) → G g (closes g m c id own)
  step_closes g c id own =
      let h = record g { clients = at_client m (closing own) g.clients } in let i = tells h m (replied id done) in
      some_step (followed_by c.subs own) g (tells g m (replied id (refused unknown_subscription))) (λ k. swept i k)
      (kit.tell g (replied id (refused unknown_subscription)) refl)
      (λ k. kit.chain g h (swept i k) (kit.close g own) (kit.chain h i (swept i k) (kit.tell h (replied id done) refl) (step_swept i k)))

  -- ---- messages: what holds of where steps lead holds where a message leads, if it does behind a request

  module _ (g : Gate) (F : Gate → Type 0) (reach : (h : Gate) → G g h → F h) where
    -- a refusal without a name is told, and nothing else
    step_refuses : (id : Option Data) (q : Request) (name : Option Ask) (r : Refusal) → ((a : Ask) → F (replies_to g m id q (Some a) (refused r))) → F (replies_to g m id q name (refused r))
    step_refuses id q (Some a) r f = f a
    step_refuses id q None r f = subst F (sym same) (reach (tells g m (replied id (refused r))) (kit.tell g (replied id (refused r)) refl))
      where
        nothing : (b : Bool) → cond {A = List Entry} (b && false) (record { requests = []; names = []; position = next_position g } ∷ []) [] ≡ []
        nothing true = refl
        nothing false = refl

        same : replies_to g m id q None (refused r) ≡ tells g m (replied id (refused r))
        same =
            ap (λ es. tells (entered g es) m (replied id (refused r))) (nothing (is_shared q.act))
            ∙ ap (λ es. tells (record g { entries = es }) m (replied id (refused r))) (append-nil g.entries)

    step_shares : (c : Client) (id : Option Data) (q : Request) (claim : Option Claim) → ((name : Option Ask) (n : ℕ) → seat_of g.seats q.role ≡ Some n → F (done_in g m id q name n))
        → ((b : Ask) (r : Refusal) → F (replies_to g m id q (Some b) (refused r))) → F (shares g m c id q claim)
    step_shares c id q claim f k = shares_so F g m id q (record {
      tells = λ t a. reach (tells g m t) (kit.tell g t (unmade t a));
      does = f;
      refuses = λ name r. step_refuses id q name r (λ a. k a r);
    }) c claim
      where
        unmade : (t : Told) → IsAside t → is_made t ≡ false
        unmade _ (refers i n) = refl
        unmade _ (leaves i n) = refl
        unmade _ (repeats i at answer) = refl

    step_acts : (c : Client) (id : Option Data) (text : List ℕ) (act : Act)
        → ((name : Option Ask) (n : ℕ) → is_shared act ≡ true → seat_of g.seats c.role ≡ Some n → F (done_in g m id (request_of c text act) name n))
        → ((a : Ask) (r : Refusal) → is_shared act ≡ true → F (replies_to g m id (request_of c text act) (Some a) (refused r)))
        → F (acts g m c id text act)
    step_acts c id text (begin role) f k = reach (tells g m (fault 2)) (kit.tell g (fault 2) refl)
    step_acts c id text finish f k = reach (tells g m (fault 2)) (kit.tell g (fault 2) refl)
    step_acts c id text (subscribe rel) f k = reach (reads g m c id rel) (step_reads g c id rel)
    step_acts c id text (unsubscribe own) f k = reach (closes g m c id own) (step_closes g c id own)
    step_acts c id text act f k = step_shares c id (request_of c text act) (claim_said text) (λ o n e. f o n refl e) (λ a r. k a r refl)

    pub step_done : (c : Client) (text : List ℕ) (s : Message)
        → ((id : Option Data) (act : Act) (name : Option Ask) (n : ℕ) → s ≡ request id act → is_shared act ≡ true → seat_of g.seats c.role ≡ Some n
        → F (done_in g m id (request_of c text act) name n))
        → ((id : Option Data) (act : Act) (a : Ask) (r : Refusal) → s ≡ request id act → is_shared act ≡ true → F (replies_to g m id (request_of c text act) (Some a) (refused r)))
        → F (done_for g m c text s)
    step_done c text no_json f k = reach (tells g m (fault 1)) (kit.tell g (fault 1) refl)
    step_done c text too_long f k = reach (tells g m (fault 22)) (kit.tell g (fault 22) refl)
    step_done c text no_object f k = reach (tells g m (fault 2)) (kit.tell g (fault 2) refl)
    step_done c text (no_request id why) f k = reach (tells g m (unasked id why)) (kit.tell g (unasked id why) refl)
    step_done c text (request id act) f k =
        cond-either F (may_have (claim_said text) act) (acts g m c id text act) (tells g m (unasked id (unknown (codes "once"))))
        (step_acts c id text act (λ o n x e. f id act o n refl x e) (λ a r x. k id act a r refl x))
        (reach (tells g m (unasked id (unknown (codes "once")))) (kit.tell g (unasked id (unknown (codes "once"))) refl))

-- ---- a fact of gateways that each step keeps

abbrev pub Keeps : (Gate → Type 0) → Gate → Gate → Type 0
Keeps P g h = P g → P h

-- what is read of the journal
journal_kit : {A : Type 0} (read : Head → List Entry → A) (a : A) (m : ℕ) → Steps m (Keeps (λ g. read g.head g.entries ≡ a))
journal_kit read a m = record {
  same = λ g x. x;
  chain = λ g h i x y z. y (x z);
  run = λ g k e x. x;
  settle = λ g x. x;
  tell = λ g t e x. x;
  seat = λ g seats x. x;
  feed = λ g feeds x. x;
  follow = λ g k x. x;
  move = λ g t k x. x;
  close = λ g own x. x;
}

abbrev pub HasEntries : List Entry → Gate → Type 0
HasEntries es g = g.entries ≡ es

pub entries_kit : (es : List Entry) (m : ℕ) → Steps m (Keeps (HasEntries es))
entries_kit es m = journal_kit (λ h fs. fs) es m

abbrev pub HasHead : Head → Gate → Type 0
HasHead h g = g.head ≡ h

pub head_kit : (h : Head) (m : ℕ) → Steps m (Keeps (HasHead h))
head_kit h m = journal_kit (λ i fs. i) h m

-- what keeps it where a message of client m, who is c, is heard: who says it, the answer, and a request
pub record MessageKeeps (P : Gate → Type 0) (g : Gate) (m : ℕ) (c : Client) (text : List ℕ) : Type 0 where
  pub says : P g → P (record g { clients = at_client m (saying text) g.clients })
  pub answers : (h : Gate) → P h → P (record h { clients = at_client m (clients.answered c) h.clients })
  pub asks : (id : Option Data) (act : Act) (name : Option Ask) (n : ℕ) → said_by text ≡ request id act → is_shared act ≡ true → seat_of g.seats c.role ≡ Some n
      → P (record g { clients = at_client m (saying text) g.clients })
      → P (done_in (record g { clients = at_client m (saying text) g.clients }) m id (request_of c text act) name n)
  pub refuses : (id : Option Data) (act : Act) (a : Ask) (r : Refusal) → said_by text ≡ request id act → is_shared act ≡ true
      → P (record g { clients = at_client m (saying text) g.clients })
      → P (replies_to (record g { clients = at_client m (saying text) g.clients }) m id (request_of c text act) (Some a) (refused r))

module _ (P : Gate → Type 0) (kit : (m : ℕ) → Steps m (Keeps P)) where
  -- a token is presented
  pub came_keeps : (g : Gate) (m : ℕ) (token : List ℕ)
      → ((h : Gate) (t : Token) → token_for g m token ≡ Some t → P h → P (record h { clients = set h.clients m (Some (fresh h.entries t (at_text h t))) }))
      → P g → P (came g m token)
  came_keeps g m token put b = by (token_for g m token) (λ t e. put (with_session g t.role) t e)
    where
      by : (o : Option Token) → ((t : Token) → o ≡ Some t → P (with_session g t.role)
          → P (record (with_session g t.role) { clients = set (with_session g t.role).clients m (Some (fresh (with_session g t.role).entries t (at_text (with_session g t.role) t))) }))
          → P (if_some o g (λ t. let h = with_session g t.role in record h { clients = set h.clients m (Some (fresh h.entries t (at_text h t))) }))
      by None f = b
      by (Some t) f = f t refl (step_with m (Keeps P) (kit m) g t.role b)

  -- a client goes
  pub went_keeps : (g : Gate) (m : ℕ) → (P g → P (record g { clients = set g.clients m None })) → P g → P (went g m)
  went_keeps g m put b = by (client_at g.clients m)
    where
      by : (o : Option Client) → P (if_some o g (λ c. let h = all_swept (record g { clients = set g.clients m None }) (map (λ s. s.feed) c.subs) in settles (all_rested h (filter (is_of_role c.role) h.seats))))
      by None = b
      by (Some c) =
          let i = record g { clients = set g.clients m None } in let h = all_swept i (map (λ s. s.feed) c.subs) in let k = kit m in
          k.settle (all_rested h (filter (is_of_role c.role) h.seats))
          (step_all_rested m (Keeps P) k h (filter (is_of_role c.role) h.seats) (step_all_swept m (Keeps P) k i (map (λ s. s.feed) c.subs) (put b)))

  pub said_keeps : (g : Gate) (m : ℕ) (text : List ℕ) → ((c : Client) → client_at g.clients m ≡ Some c → MessageKeeps P g m c text) → P g → P (said g m text)
  said_keeps g m text hear b = by (client_at g.clients m) hear
    where
      heard : (c : Client) → MessageKeeps P g m c text → (d : Bool) → P (cond d (hears g m c text) g)
      heard c x true =
          let i = record g { clients = at_client m (saying text) g.clients } in let k = kit m in let a = x.says b in
          x.answers (settles (done_for i m c text (said_by text))) (k.settle (done_for i m c text (said_by text))
          (step_done m (Keeps P) k i P (λ h f. f a) c text (said_by text) (λ id act o n e s t. x.asks id act o n e s t a) (λ id act b r e s. x.refuses id act b r e s a)))
      heard c x false = b

      by : (o : Option Client) → ((c : Client) → o ≡ Some c → MessageKeeps P g m c text) → P (if_some o g (λ c. cond (may_say c) (hears g m c text) g))
      by None f = b
      by (Some c) f = heard c (f c refl) (may_say c)
