-- What a client asks keeps clients in step with what their feeds show.
use Rattle.std.proofs.Common.{◌≡◌, ℕ, Bool, true, false, cond, List, [], ◌∷◌, ◌++◌, length, Option, Some, None, option_map, refl, ap, ◌∙◌, sym, subst, append-nil}
use Rattle.std.specs.Prelude.{◌+◌, find, bytes_eq, nat_lt, option_and_then, codes}
use Rattle.std.specs.List.{AllByRecursion}
use Rattle.std.proofs.lemmas.Bool.{false≢true}
use Rattle.serde_json.specs.Data.{Data}
use Rattle.iv_rows.specs.Options.{if_some}
use Rattle.iv_access.specs.Rights.{Name}
use Rattle.iv_machine.specs.Act.{Act, begin, finish, subscribe, unsubscribe, Command, Refusal, done, refused, too_many, unknown_subscription, Reply}
use Rattle.iv_machine.specs.Machine.{outcome, step}
use Rattle.iv_machine.specs.Refusing.{refusal}
use Rattle.iv_machine.specs.State.{State}
use Rattle.iv_message.specs.Message.{Message, no_json, too_long, no_object, no_request, request, unknown}
use Rattle.iv_message.specs.Told.{replied, fault, unasked, Told}
use Rattle.iv_clients.specs.Bounds.{most_feeds, most_subs}
use Rattle.iv_clients.specs.Clients.{Client, at_client, client_at, closing, followed_by, staying, telling, told}
use Rattle.iv_clients.specs.Feeds.{Feed, Seat, ends_in, feed_for, has_room, is_of_role, is_reading, load, next_seat, room_for, seat_of}
use Rattle.iv_records.specs.Journal.{Entry, said_by, Request, claim_said}
use Rattle.iv_clients.proofs.Slots.{client_at-at_all, IsFrom-option_map, same-Some, not_None-Some}
use Rattle.iv_gate.specs.Gate.{Gate, acts, begun_for, closes, done_for, entered, in_session, is_accepted, joins, ran, reads, reads_first, reply_in, reply_to, done_in, seated, subscribes, swept, tells, told_of, entries_of, shares, may_have, reply_told, replies_to, next_position}
use Rattle.iv_gate.specs.Replies.{ActsAs, replies}
use Rattle.iv_gate.proofs.SameFeeds.{and-both_true, IsSoundGate-joins, same-bytes_eq}
use Rattle.iv_gate.proofs.NewSubscriptions.{IsAsker, AllByRecursion-pushed, IsQuiet-replied, IsSoundGate-subscribes}
use Rattle.iv_gate.proofs.ReplyPlaces.{replies-append, replies-told_of}
use Rattle.iv_gate.proofs.SoundSteps.{IsQuiet, ActsAs-step, AllByRecursion-map, closes_none, IsSoundClient-closing, IsSoundGate-at_client, IsSoundGate-ran, Spares-closes_none, IsSoundGate-swept, IsSoundGate-tells, IsSoundGate-informs}
use Rattle.iv_gate.proofs.SoundCommands.{Adds, IsFeed, IsSoundGate, Seer, Sounds, IsFeed-step, IsSoundGate-IsReady, seer-telling}
use Rattle.iv_gate.proofs.ShapeTexts.{cond-either}
use Rattle.iv_records.specs.Names.{Claim}
use Rattle.iv_once.specs.Names.{Ask}
use Rattle.iv_gate.proofs.RequestFates.{shares_so, IsAside, refers, leaves, repeats}
use Rattle.iv_gate.proofs.StepRelations.{request_of}

-- ---- requests of the machine

entered_sound : (g : Gate) (es : List Entry) → IsSoundGate g → IsSoundGate (entered g es)
entered_sound g es b = record { state = b.state; seats = b.seats; feeds = b.feeds; clients = b.clients }

quiet_told : (g : Gate) (id : Option Data) (name : Option Ask) (r : Reply) → IsQuiet (reply_told g id name r)
quiet_told g id None r = IsQuiet-replied id r
quiet_told g id (Some a) r = record { weighs = λ own q. refl; goes_on = λ own. refl }

quiet_aside : (t : Told) → IsAside t → IsQuiet t
quiet_aside _ (refers id number) = record { weighs = λ own q. refl; goes_on = λ own. refl }
quiet_aside _ (leaves id number) = record { weighs = λ own q. refl; goes_on = λ own. refl }
quiet_aside _ (repeats id at answer) = record { weighs = λ own q. refl; goes_on = λ own. refl }

replies_sound : (g : Gate) (m : ℕ) (id : Option Data) (q : Request) (name : Option Ask) (r : Reply) → IsSoundGate g → IsSoundGate (replies_to g m id q name r)
replies_sound g m id q name r b = let h = entered g (entries_of (next_position g) q name r) in IsSoundGate-tells h m (reply_told h id name r) (quiet_told h id name r) (entered_sound g (entries_of (next_position g) q name r) b)

requests_sound : Adds → Sounds → (g : Gate) (m : ℕ) (id : Option Data) (q : Request) (name : Option Ask) (n : ℕ) → closes_none q.act ≡ true → IsSoundGate g → IsSoundGate (done_in g m id q name n)
requests_sound adds sounds g m id q name n h b =
    let k = in_session n q.act in let r = reply_to g k in let i = replies_to g m id q name r in
    IsSoundGate-informs (ran i k) (entries_of (next_position g) q name r) (IsSoundGate-ran adds sounds i k h (replies_sound g m id q name r b))

shares_sound : Adds → Sounds → (g : Gate) (m : ℕ) (c : Client) (id : Option Data) (q : Request) (claim : Option Claim) → closes_none q.act ≡ true → IsSoundGate g → IsSoundGate (shares g m c id q claim)
shares_sound adds sounds g m c id q claim h b = shares_so IsSoundGate g m id q (record {
  tells = λ t a. IsSoundGate-tells g m t (quiet_aside t a) b;
  does = λ name n e. requests_sound adds sounds g m id q name n h b;
  refuses = λ name r. replies_sound g m id q name (refused r) b;
}) c claim

-- ---- sessions

seat_acts : (s : State) (p : Seat → Bool) (role : Name) → ((x : Seat) → p x ≡ true → x.role ≡ role) → (xs : List Seat) (n : ℕ) → AllByRecursion (λ x. ActsAs s x.session x.role) xs
    → option_map (λ (x : Seat). x.session) (find p xs) ≡ Some n → ActsAs s n role
seat_acts s p role is [] n a h = absurd (not_None-Some n (sym h))
seat_acts s p role is (x ∷ xs) n a h = by (p x) refl h (λ e. seat_acts s p role is xs n a.1 e)
  where
    by : (b : Bool) → p x ≡ b → option_map (λ (y : Seat). y.session) (cond b (Some x) (find p xs)) ≡ Some n → (option_map (λ (y : Seat). y.session) (find p xs) ≡ Some n → ActsAs s n role) → ActsAs s n role
    by true t e more = subst (λ z. ActsAs s z role) (same-Some x.session n e) (subst (λ z. ActsAs s x.session z) (is x t) a.0)
    by false t e more = more e

pub ActsAs-seat_of : (g : Gate) → IsSoundGate g → (role : Name) (n : ℕ) → seat_of g.seats role ≡ Some n → ActsAs g.machine n role
ActsAs-seat_of g b role n h = seat_acts g.machine (is_of_role role) role (λ x e. same-bytes_eq x.role role e) g.seats n b.seats h

pub ActsAs-room_for : (g : Gate) → IsSoundGate g → (role : Name) (n : ℕ) → room_for g.seats g.feeds role ≡ Some n → ActsAs g.machine n role
ActsAs-room_for g b role n h = seat_acts g.machine (has_room g.feeds role) role (λ x e. same-bytes_eq x.role role (and-both_true (is_of_role role x) (nat_lt (load g.feeds x.session) most_feeds) e).0) g.seats n b.seats h

pub None-is_accepted : (s : State) (k : Command) (o : Option Refusal) → is_accepted (reply_in (outcome s k o).lines) ≡ true → o ≡ None
None-is_accepted s k None h = refl
None-is_accepted s k (Some r) h = absurd (false≢true h)

pub refusal-begun_for : (g : Gate) (role : Name) (n : ℕ) → begun_for g role ≡ Some n → refusal g.machine n (begin role) ≡ None
refusal-begun_for g role n h = by (next_seat g.seats) h
  where
    test : (i : ℕ) (b : Bool) → is_accepted (reply_to g (in_session i (begin role))) ≡ b → cond b (Some i) None ≡ Some n → refusal g.machine n (begin role) ≡ None
    test i true e t = subst (λ j. refusal g.machine j (begin role) ≡ None) (same-Some i n t) (None-is_accepted g.machine (in_session i (begin role)) (refusal g.machine i (begin role)) e)
    test i false e t = absurd (not_None-Some n (sym t))

    by : (o : Option ℕ) → option_and_then (λ i. cond (is_accepted (reply_to g (in_session i (begin role)))) (Some i) None) o ≡ Some n → refusal g.machine n (begin role) ≡ None
    by None t = absurd (not_None-Some n (sym t))
    by (Some i) t = test i (is_accepted (reply_to g (in_session i (begin role)))) refl t

pub ActsAs-begun_for : Sounds → (g : Gate) (role : Name) (n : ℕ) → begun_for g role ≡ Some n → ActsAs (seated g n role).machine n role
ActsAs-begun_for sounds g role n h =
    let b = sounds.begins g.machine n role (refusal-begun_for g role n h) in
    record { place = b.role; known = (sounds.lasts g.machine (in_session n (begin role))).roles role b.role b.known; session = b.opened }

pub IsSoundGate-seated : Adds → Sounds → (g : Gate) (role : Name) (n : ℕ) → begun_for g role ≡ Some n → IsSoundGate g → IsSoundGate (seated g n role)
IsSoundGate-seated adds sounds g role n h b =
    let k = in_session n (begin role) in let s : Seat = record { session = n; role = role } in
    IsSoundGate-IsReady adds sounds (record g { seats = g.seats ++ s ∷ [] }) k (record {
      state = b.state;
      seats = AllByRecursion-pushed (λ (x : Seat). ActsAs (step g.machine k).state x.session x.role) g.seats s (AllByRecursion-map (λ x y. ActsAs-step sounds g.machine k x.session x.role refl y) g.seats b.seats) (ActsAs-begun_for sounds g role n h);
      feeds =
          AllByRecursion-map {P = IsFeed g.machine} {Q = λ (f : Feed). ends_in (step g.machine k).lines f.number ≡ false → IsFeed (step g.machine k).state f}
          (λ f y e. IsFeed-step sounds g.machine k f b.state.numbers refl (Spares-closes_none g.machine k f.number refl) e y) g.feeds b.feeds;
      spared = λ j f e. Spares-closes_none g.machine k j refl;
      clients = b.clients;
    })

-- a command leaves a message without its reply
pub asker_ran : (g : Gate) (k : Command) (m : ℕ) (id : Option Data) (role rel : Name) → ((c : Client) → client_at g.clients m ≡ Some c → IsAsker c id role rel) → (c : Client)
    → client_at (ran g k).clients m ≡ Some c → IsAsker c id role rel
asker_ran g k m id role rel same c h =
    let o = IsFrom-option_map hears (client_at g.clients m) c (sym (client_at-at_all hears g.clients m) ∙ h) in let a = same o.old o.there in
    let ts = told_of g k.act (step g.machine k) o.old in let e = seer-telling g.entries ts o.old in
    subst (λ x. IsAsker x id role rel) o.same (record {
      same = ap (λ (v : Seer). v.role) e ∙ a.same;
      before = a.before;
      text = a.text;
      messages = ap (λ (v : Seer). v.messages) e ∙ a.messages;
      asks = a.asks;
      pending = ap (λ (v : Seer). length (replies v.told)) e
          ∙ (ap length (replies-append (told o.old) ts ∙ (ap (λ z. replies (told o.old) ++ z) (replies-told_of g k.act (step g.machine k) o.old) ∙ append-nil (replies (told o.old)))) ∙ a.pending);
    })
  where
    hears : Client → Client
    hears x = staying (step g.machine k).lines (telling g.entries (told_of g k.act (step g.machine k) x) x)

-- ---- subscribing

first_sound : Adds → Sounds → (g : Gate) (m : ℕ) (id : Option Data) (role rel : Name) → ((c : Client) → client_at g.clients m ≡ Some c → IsAsker c id role rel) → IsSoundGate g → IsSoundGate (reads_first g m id role rel)
first_sound adds sounds g m id role rel same b = by (room_for g.seats g.feeds role) refl
  where
    further : (o : Option ℕ) → begun_for g role ≡ o → IsSoundGate (if_some o (tells g m (replied id (refused too_many))) (λ n. subscribes (seated g n role) m id n role rel))
    further None e = IsSoundGate-tells g m (replied id (refused too_many)) (IsQuiet-replied id (refused too_many)) b
    further (Some n) e =
        IsSoundGate-subscribes adds sounds (seated g n role) m id n role rel (ActsAs-begun_for sounds g role n e)
        (asker_ran (record g { seats = g.seats ++ record { session = n; role = role } ∷ [] }) (in_session n (begin role)) m id role rel same) (IsSoundGate-seated adds sounds g role n e b)

    by : (o : Option ℕ) → room_for g.seats g.feeds role ≡ o
        → IsSoundGate (if_some o (if_some (begun_for g role) (tells g m (replied id (refused too_many))) (λ n. subscribes (seated g n role) m id n role rel)) (λ n. subscribes g m id n role rel))
    by None e = further (begun_for g role) refl
    by (Some n) e = IsSoundGate-subscribes adds sounds g m id n role rel (ActsAs-room_for g b role n e) same b

pub ActsAs-feed_for : (s : State) (role rel : Name) (fs : List Feed) (f : Feed) → AllByRecursion (IsFeed s) fs → feed_for fs role rel ≡ Some f → ActsAs s f.session f.role × (f.role ≡ role) × (f.rel ≡ rel)
ActsAs-feed_for s role rel [] f a h = absurd (not_None-Some f (sym h))
ActsAs-feed_for s role rel (x ∷ xs) f a h = by (is_reading role rel x) refl h (λ e. ActsAs-feed_for s role rel xs f a.1 e)
  where
    by : (b : Bool) → is_reading role rel x ≡ b → cond b (Some x) (feed_for xs role rel) ≡ Some f → (feed_for xs role rel ≡ Some f → ActsAs s f.session f.role × (f.role ≡ role) × (f.rel ≡ rel)) → ActsAs s f.session f.role × (f.role ≡ role) × (f.rel ≡ rel)
    by true t e more =
        let names = and-both_true (bytes_eq x.role role) (bytes_eq x.rel rel) t in
        subst (λ (z : Feed). ActsAs s z.session z.role × (z.role ≡ role) × (z.rel ≡ rel)) (same-Some x f e) (a.0.acts, same-bytes_eq x.role role names.0, same-bytes_eq x.rel rel names.1)
    by false t e more = more e

reads_sound : Adds → Sounds → (g : Gate) (m : ℕ) (c : Client) (id : Option Data) (rel : Name) → ((d : Client) → client_at g.clients m ≡ Some d → IsAsker d id c.role rel) → IsSoundGate g → IsSoundGate (reads g m c id rel)
reads_sound adds sounds g m c id rel same b = test (nat_lt (length c.subs) most_subs)
  where
    by : (o : Option Feed) → feed_for g.feeds c.role rel ≡ o → IsSoundGate (if_some o (reads_first g m id c.role rel) (joins g m id))
    by None e = first_sound adds sounds g m id c.role rel same b
    by (Some f) e = let p = ActsAs-feed_for g.machine c.role rel g.feeds f b.feeds e in IsSoundGate-joins adds sounds g m id f p.0 (λ d t. subst (λ r. IsAsker d id r f.rel) (sym p.1) (subst (λ r. IsAsker d id c.role r) (sym p.2) (same d t))) b

    test : (t : Bool) → IsSoundGate (cond t (if_some (feed_for g.feeds c.role rel) (reads_first g m id c.role rel) (joins g m id)) (tells g m (replied id (refused too_many))))
    test true = by (feed_for g.feeds c.role rel) refl
    test false = IsSoundGate-tells g m (replied id (refused too_many)) (IsQuiet-replied id (refused too_many)) b

closes_sound : Adds → Sounds → (g : Gate) (m : ℕ) (c : Client) (id : Option Data) (own : ℕ) → IsSoundGate g → IsSoundGate (closes g m c id own)
closes_sound adds sounds g m c id own b = by (followed_by c.subs own)
  where
    h : Gate
    h = record g { clients = at_client m (closing own) g.clients }

    by : (o : Option ℕ) → IsSoundGate (if_some o (tells g m (replied id (refused unknown_subscription))) (λ k. swept (tells (record g { clients = at_client m (closing own) g.clients }) m (replied id done)) k))
    by None = IsSoundGate-tells g m (replied id (refused unknown_subscription)) (IsQuiet-replied id (refused unknown_subscription)) b
    by (Some k) = IsSoundGate-swept adds sounds (tells h m (replied id done)) k
        (IsSoundGate-tells h m (replied id done) (IsQuiet-replied id done) (IsSoundGate-at_client g m (closing own) (λ d e live. IsSoundClient-closing g.machine g.feeds d own (b.clients m d e live)) b))

quiet_fault : (n : ℕ) → IsQuiet (fault n)
quiet_fault n = record { weighs = λ i q. refl; goes_on = λ i. refl }

-- client m has said the text, and has no reply yet
pub record IsHeard (g : Gate) (m : ℕ) (c : Client) (text : List ℕ) (d : Client) : Type 0 where
  pub role : d.role ≡ c.role
  pub before : List (List ℕ)
  pub messages : d.messages ≡ before ++ text ∷ []
  pub pending : length (replies (told d)) ≡ length before + 2

pub IsAsker-IsHeard : (g : Gate) (m : ℕ) (c : Client) (id : Option Data) (text : List ℕ) (rel : Name) (d : Client) → said_by text ≡ request id (subscribe rel) → IsHeard g m c text d → IsAsker d id c.role rel
IsAsker-IsHeard g m c id text rel d e h = record { same = h.role; before = h.before; text = text; messages = h.messages; asks = e; pending = h.pending }

acts_sound : Adds → Sounds → (g : Gate) (m : ℕ) (c : Client) (id : Option Data) (text : List ℕ) (act : Act) → said_by text ≡ request id act → ((d : Client) → client_at g.clients m ≡ Some d → IsHeard g m c text d) → IsSoundGate g → IsSoundGate (acts g m c id text act)
acts_sound adds sounds g m c id text (begin role) said same b = IsSoundGate-tells g m (fault 2) (quiet_fault 2) b
acts_sound adds sounds g m c id text finish said same b = IsSoundGate-tells g m (fault 2) (quiet_fault 2) b
acts_sound adds sounds g m c id text (subscribe rel) said same b =
    reads_sound adds sounds g m c id rel (λ d t. IsAsker-IsHeard g m c id text rel d said (same d t)) b
acts_sound adds sounds g m c id text (unsubscribe own) said same b = closes_sound adds sounds g m c id own b
acts_sound adds sounds g m c id text act said same b = shares_sound adds sounds g m c id (request_of c text act) (claim_said text) refl b

-- whatever a client says
pub IsSoundGate-done_for : Adds → Sounds → (g : Gate) (m : ℕ) (c : Client) (text : List ℕ) (s : Message) → said_by text ≡ s → ((d : Client) → client_at g.clients m ≡ Some d → IsHeard g m c text d) → IsSoundGate g → IsSoundGate (done_for g m c text s)
IsSoundGate-done_for adds sounds g m c text no_json said same b = IsSoundGate-tells g m (fault 1) (quiet_fault 1) b
IsSoundGate-done_for adds sounds g m c text too_long said same b = IsSoundGate-tells g m (fault 22) (quiet_fault 22) b
IsSoundGate-done_for adds sounds g m c text no_object said same b = IsSoundGate-tells g m (fault 2) (quiet_fault 2) b
IsSoundGate-done_for adds sounds g m c text (no_request id why) said same b =
    IsSoundGate-tells g m (unasked id why) (record { weighs = λ i q. refl; goes_on = λ i. refl }) b
IsSoundGate-done_for adds sounds g m c text (request id act) said same b =
    cond-either IsSoundGate (may_have (claim_said text) act) (acts g m c id text act) (tells g m (unasked id (unknown (codes "once")))) (acts_sound adds sounds g m c id text act said same b) (IsSoundGate-tells g m (unasked id (unknown (codes "once"))) (record { weighs = λ own q. refl; goes_on = λ own. refl }) b)
