-- A fact of the machine and of the sessions that each step keeps, through all that an event does but finishing sessions.
use Rattle.std.proofs.Common.{◌≡◌, ℕ, Bool, true, false, cond, not, List, [], ◌∷◌, length, Option, Some, None, refl}
use Rattle.std.specs.Prelude.{◌==◌, ◌&&◌, nat_lt, codes}
use Rattle.serde_json.specs.Data.{Data}
use Rattle.iv_rows.specs.Options.{if_some}
use Rattle.iv_access.specs.Rights.{Name}
use Rattle.iv_machine.specs.Act.{Act, begin, finish, subscribe, unsubscribe, Command, Reply, done, subscribed, refused, too_many, unknown_subscription}
use Rattle.iv_machine.specs.Machine.{step}
use Rattle.iv_machine.specs.State.{State}
use Rattle.iv_message.specs.Message.{Message, no_json, too_long, no_object, no_request, request, unknown}
use Rattle.iv_message.specs.Told.{replied, unasked}
use Rattle.iv_clients.specs.Bounds.{most_subs}
use Rattle.iv_clients.specs.Clients.{Client, at_client, closing, followed_by, is_followed, moved}
use Rattle.iv_clients.specs.Feeds.{Feed, Seat, feed_for, feed_of, is_reading, room_for, seat_of}
use Rattle.iv_records.specs.Journal.{Request, claim_said}
use Rattle.iv_gate.specs.Gate.{Gate, acts, all_swept, begun_for, closes, done_for, feed_begun, in_session, joined, joined_by, joins, reads, reads_first, reply_to, seated, shut, subscribes, swept, tells, with_session, shares, may_have}
use Rattle.iv_records.specs.Names.{Claim}
use Rattle.iv_gate.proofs.RequestFates.{shares_so}
use Rattle.iv_gate.proofs.StepRelations.{request_of}

-- ---- what an event's commands keep of the machine and the sessions

-- neither begins nor finishes a session
abbrev pub is_plain : Act → Bool
is_plain (begin role) = false
is_plain finish = false
is_plain _ = true

pub record Sits (J : State → List Seat → Type 0) : Type 0 where
  pub step : (s : State) (k : Command) (seats : List Seat) → is_plain k.act ≡ true → J s seats → J (step s k).state seats
  pub begin : (g : Gate) (n : ℕ) (role : Name) → begun_for g role ≡ Some n → J g.machine g.seats → J (seated g n role).machine (seated g n role).seats

module _ (J : State → List Seat → Type 0) (kit : Sits J) where
  abbrev pub At : Gate → Type 0
  At g = J g.machine g.seats

  some_at : {X : Type 0} (o : Option X) (h : Gate) (f : X → Gate) → At h → ((x : X) → o ≡ Some x → At (f x)) → At (if_some o h f)
  some_at None h f a b = a
  some_at (Some x) h f a b = b x refl

  test_at : (b : Bool) (h i : Gate) → At h → At i → At (cond b h i)
  test_at true h i a b = a
  test_at false h i a b = b

  pub at_with : (g : Gate) (role : Name) → At g → At (with_session g role)
  at_with g role a = some_at (seat_of g.seats role) (if_some (begun_for g role) g (λ n. seated g n role)) (λ n. g)
      (some_at (begun_for g role) g (λ n. seated g n role) a (λ n e. kit.begin g n role e a)) (λ n e. a)

  at_begun : (g : Gate) (m : ℕ) (id : Option Data) (n : ℕ) (role rel : Name) (r : Reply) → At g → At (feed_begun g m id n role rel r)
  at_begun g m id n role rel (subscribed t) a = a
  at_begun g m id n role rel done a = a
  at_begun g m id n role rel (refused r) a = a

  at_subscribes : (g : Gate) (m : ℕ) (id : Option Data) (n : ℕ) (role rel : Name) → At g → At (subscribes g m id n role rel)
  at_subscribes g m id n role rel a =
      let k = in_session n (subscribe rel) in let h = feed_begun g m id n role rel (reply_to g k) in
      kit.step h.machine k h.seats refl (at_begun g m id n role rel (reply_to g k) a)

  at_shut : (g : Gate) (f : Feed) → At g → At (shut g f)
  at_shut g f a = kit.step g.machine (in_session f.session (unsubscribe f.number)) g.seats refl a

  at_joined : (g : Gate) (m : ℕ) (t k : Option Feed) → At g → At (joined g m t k)
  at_joined g m (Some t) (Some k) a =
      test_at (is_reading t.role t.rel k && not (t.number == k.number)) (shut (record g { clients = at_client m (moved t.number k.number) g.clients }) t) g
      (at_shut (record g { clients = at_client m (moved t.number k.number) g.clients }) t a) a
  at_joined g m (Some t) None a = a
  at_joined g m None k a = a

  at_joined_by : (g : Gate) (m k : ℕ) (r : Reply) → At g → At (joined_by g m k r)
  at_joined_by g m k (subscribed t) a = at_joined g m (feed_of g.feeds t) (feed_of g.feeds k) a
  at_joined_by g m k done a = a
  at_joined_by g m k (refused r) a = a

  at_joins : (g : Gate) (m : ℕ) (id : Option Data) (f : Feed) → At g → At (joins g m id f)
  at_joins g m id f a =
      at_joined_by (subscribes g m id f.session f.role f.rel) m f.number (reply_to g (in_session f.session (subscribe f.rel))) (at_subscribes g m id f.session f.role f.rel a)

  at_first : (g : Gate) (m : ℕ) (id : Option Data) (role rel : Name) → At g → At (reads_first g m id role rel)
  at_first g m id role rel a =
      some_at (room_for g.seats g.feeds role)
      (if_some (begun_for g role) (tells g m (replied id (refused too_many))) (λ n. subscribes (seated g n role) m id n role rel)) (λ n. subscribes g m id n role rel)
      (some_at (begun_for g role) (tells g m (replied id (refused too_many))) (λ n. subscribes (seated g n role) m id n role rel) a
      (λ n e. at_subscribes (seated g n role) m id n role rel (kit.begin g n role e a)))
      (λ n e. at_subscribes g m id n role rel a)

  at_reads : (g : Gate) (m : ℕ) (c : Client) (id : Option Data) (rel : Name) → At g → At (reads g m c id rel)
  at_reads g m c id rel a =
      test_at (nat_lt (length c.subs) most_subs) (if_some (feed_for g.feeds c.role rel) (reads_first g m id c.role rel) (joins g m id)) (tells g m (replied id (refused too_many)))
      (some_at (feed_for g.feeds c.role rel) (reads_first g m id c.role rel) (joins g m id) (at_first g m id c.role rel a) (λ f e. at_joins g m id f a)) a

  pub at_swept : (g : Gate) (k : ℕ) → At g → At (swept g k)
  at_swept g k a = test_at (is_followed k g.clients) g (if_some (feed_of g.feeds k) g (shut g)) a (some_at (feed_of g.feeds k) g (shut g) a (λ f e. at_shut g f a))

  pub at_all_swept : (g : Gate) (ks : List ℕ) → At g → At (all_swept g ks)
  at_all_swept g [] a = a
  at_all_swept g (k ∷ ks) a = at_all_swept (swept g k) ks (at_swept g k a)

  at_closes : (g : Gate) (m : ℕ) (c : Client) (id : Option Data) (own : ℕ) → At g → At (closes g m c id own)
  at_closes g m c id own a =
      let h = record g { clients = at_client m (closing own) g.clients } in
      some_at (followed_by c.subs own) (tells g m (replied id (refused unknown_subscription))) (λ k. swept (tells h m (replied id done)) k) a (λ k e. at_swept (tells h m (replied id done)) k a)

  at_shares : (g : Gate) (m : ℕ) (c : Client) (id : Option Data) (q : Request) (claim : Option Claim) → is_plain q.act ≡ true → At g → At (shares g m c id q claim)
  at_shares g m c id q claim p a =
      shares_so At g m id q (record { tells = λ t x. a; does = λ name n e. kit.step g.machine (in_session n q.act) g.seats p a; refuses = λ name r. a }) c claim

  at_acts : (g : Gate) (m : ℕ) (c : Client) (id : Option Data) (text : List ℕ) (act : Act) → At g → At (acts g m c id text act)
  at_acts g m c id text (begin role) a = a
  at_acts g m c id text finish a = a
  at_acts g m c id text (subscribe rel) a = at_reads g m c id rel a
  at_acts g m c id text (unsubscribe own) a = at_closes g m c id own a
  at_acts g m c id text act a = at_shares g m c id (request_of c text act) (claim_said text) refl a

  pub at_done : (g : Gate) (m : ℕ) (c : Client) (text : List ℕ) (s : Message) → At g → At (done_for g m c text s)
  at_done g m c text no_json a = a
  at_done g m c text too_long a = a
  at_done g m c text no_object a = a
  at_done g m c text (no_request id why) a = a
  at_done g m c text (request id act) a = test_at (may_have (claim_said text) act) (acts g m c id text act) (tells g m (unasked id (unknown (codes "once")))) (at_acts g m c id text act a) a
