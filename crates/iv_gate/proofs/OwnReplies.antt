-- A client is replied once to its own message that is heard.
use Rattle.std.proofs.Common.{◌≡◌, ℕ, ◌+◌, ◌⊎◌, inl, inr, Bool, true, false, not, cond, ◌||◌, List, [], ◌∷◌, ◌++◌, length, Option, Some, None, is_some, option_map, refl, ap, ◌∙◌, sym, subst, append-nil}
use Rattle.std.specs.Prelude.{◌==◌, ◌&&◌, if◌then◌else◌, filter, nat_lt, codes}
use Rattle.std.proofs.lemmas.Bool.{false≢true, eqb-true}
use Rattle.serde_json.specs.Data.{Data}
use Rattle.iv_rows.specs.Columns.{Column}
use Rattle.iv_rows.specs.Options.{if_some}
use Rattle.iv_access.specs.Rights.{Name}
use Rattle.iv_machine.specs.Act.{Act, begin, finish, subscribe, unsubscribe, Command, Reply, done, subscribed, refused, no_session, too_many, unknown_subscription, limit}
use Rattle.iv_machine.specs.Machine.{step}
use Rattle.iv_message.specs.Message.{Message, no_json, too_long, no_object, no_request, request, unknown}
use Rattle.iv_message.specs.Told.{Told, replied, opened, fault, unasked, undecided}
use Rattle.iv_message.specs.Told as texts
use Rattle.iv_clients.specs.Bounds.{most_subs}
use Rattle.iv_clients.specs.Clients.{Client, Slots, Sub, answered, at_all, at_client, client_at, closing, followed_by, following, is_followed, moved, saying, settling, staying, telling, told, told_one}
use Rattle.iv_clients.specs.Feeds.{Feed, feed_for, feed_of, is_reading, room_for, seat_of, without_feed}
use Rattle.iv_records.specs.Journal.{Entry, said_by, shape_for, Request, claim_said}
use Rattle.iv_clients.proofs.Slots.{client_at-at_all, client_at-at_client, same-Some}
use Rattle.iv_gate.specs.Gate.{Gate, acts, begun_for, closes, columns_in, done_for, entered, feed_begun, hears, in_session, joined, joined_by, joins, next_own, ran, reads, reads_first, reply_to, done_in, seated, settles, shut, subscribes, swept, tells, told_of, informs, entries_of, has_shape_room, asked_by, by_verdict, decided_elsewhere, decides, may_have, names_of, place_of, replies_to, reply_told, shares, number_here, next_position, is_elsewhere}
use Rattle.iv_gate.specs.Replies.{is_opened, reading_told, replies, is_reply}
use Rattle.iv_gate.specs.Seen.{is_end_of}
use Rattle.iv_gate.proofs.GrownTexts.{Grown, append-associative, Kit-Grown}
use Rattle.iv_gate.proofs.NoReplies.{Began, BeginsQuietly, Hears, Began-itself, ends_for, Hears-moved, Hears-staying, Hears-settling, Hears-itself, Hears-trans, is_own, Later-seated, Hears-telling}
use Rattle.iv_gate.proofs.ReplyPlaces.{list_any-append_front, list_any-append_back, any_of_both, replies-none}
use Rattle.iv_gate.proofs.SoundEvents.{told-answered}
use Rattle.iv_gate.proofs.SoundCommands.{Seer, list_any-filter, seer-told_one}
use Rattle.iv_gate.proofs.NumberSums.{or-both_false, eq-itself}
use Rattle.iv_gate.proofs.ClientFacts.{Later, to_done, to_settles, to_then}
use Rattle.iv_gate.proofs.ShapeTexts.{all_made}
use Rattle.iv_once.specs.Names.{Ask, verdict, Verdict, carry, again, another, late, foreign, ahead, over}
use Rattle.iv_records.specs.Names.{Claim, place_text}
use Rattle.iv_gate.proofs.StepRelations.{HasEntries, Keeps, entries_kit, request_of, step_closes, step_reads}

-- ---- its own message

-- it closes the number
pub record IsClosing (own : ℕ) (s : Message) (t : Told) : Type 0 where
  pub id : Option Data
  pub asks : s ≡ request id (unsubscribe own)
  pub tells : t ≡ replied id done

-- it was told the reply, and nothing else that is one
pub record Answer (g : Gate) (s : Message) (t : Told) (c d : Client) : Type 0 where
  pub before : List Told
  pub others : List Told
  pub text : told d ≡ told c ++ (before ++ t ∷ others)
  pub first : BeginsQuietly g → before ≡ []
  pub started : replies before ≡ []
  pub alone : replies others ≡ []
  pub role : d.role ≡ c.role
  pub messages : d.messages ≡ c.messages
  pub given : d.given ≡ (if is_opened t then c.given + 1 else c.given)
  pub number : (id : Option Data) (own : ℕ) (columns : List Column) → t ≡ opened id own columns → own ≡ c.given + 1
  -- a number that it had, or was given, is lost by its end, or was closed by the message
  pub lost : (own : ℕ) → (is_own own c.subs ≡ true) ⊎ ((is_opened t ≡ true) × (own ≡ c.given + 1)) → is_own own d.subs ≡ false → (ends_for own (before ++ t ∷ others) ≡ true) ⊎ IsClosing own s t
  -- it has no other
  pub comes : (own : ℕ) → is_own own d.subs ≡ true → (is_own own c.subs ≡ true) ⊎ ((is_opened t ≡ true) × (own ≡ c.given + 1))

-- a number that it has behind a step in which none comes it had
pub is_own-before : (b c : Client) (own : ℕ) → (is_own own b.subs ≡ false → is_own own c.subs ≡ false) → is_own own c.subs ≡ true → is_own own b.subs ≡ true
is_own-before b c own none h = by (is_own own b.subs) refl
  where
    by : (t : Bool) → is_own own b.subs ≡ t → is_own own b.subs ≡ true
    by true e = e
    by false e = absurd (false≢true (sym (none e) ∙ h))

text_told : (ts us : List Told) (b c d : Client) (t : Told) → told b ≡ told c ++ ts → told d ≡ told b ++ t ∷ us → told d ≡ told c ++ (ts ++ t ∷ us)
text_told ts us b c d t x y = y ∙ (ap (λ z. z ++ t ∷ us) x ∙ append-associative (told c) ts (t ∷ us))

-- it is told the reply, which opens nothing
answer_plain : (g : Gate) (s : Message) (es : List Entry) (t : Told) (c b : Client) → Began g c b → is_opened t ≡ false → Answer g s t c (told_one es t b)
answer_plain g s es t c b x h = record {
  before = x.hears.more;
  others = [];
  text = text_told x.hears.more [] b c (told_one es t b) t x.hears.text (ap (λ (v : Seer). v.told) (seer-told_one es t b));
  first = x.first;
  started = x.hears.quiet;
  alone = refl;
  role = x.hears.role;
  messages = x.hears.messages;
  given = x.hears.given ∙ ap (λ z. cond z (c.given + 1) c.given) (sym h);
  number = λ id own columns e. absurd (false≢true (sym h ∙ ap is_opened e));
  lost = lost;
  comes = λ own k. inl (is_own-before c b own (x.hears.none own) k);
}
  where
    lost : (own : ℕ) → (is_own own c.subs ≡ true) ⊎ ((is_opened t ≡ true) × (own ≡ c.given + 1)) → is_own own b.subs ≡ false → (ends_for own (x.hears.more ++ t ∷ []) ≡ true) ⊎ IsClosing own s t
    lost own (inl i) k = inl (list_any-append_front (is_end_of own) x.hears.more (t ∷ []) (x.hears.lost own i k))
    lost own (inr i) k = absurd (false≢true (sym h ∙ i.0))

same_number : (id i : Option Data) (n own : ℕ) (columns cs : List Column) → opened id n columns ≡ opened i own cs → own ≡ n
same_number id i n own columns cs e = cc

-- it is told the reply, and follows what it opens
answer_opened : (g : Gate) (s : Message) (es : List Entry) (id : Option Data) (columns : List Column) (k : ℕ) (c b : Client) → Began g c b
    → Answer g s (opened id (c.given + 1) columns) c (following k (told_one es (opened id (b.given + 1) columns) b))
answer_opened g s es id columns k c b x = record {
  before = x.hears.more;
  others = [];
  text = text_told x.hears.more [] b c d t x.hears.text (ap (λ (v : Seer). v.told) (seer-told_one es (opened id (b.given + 1) columns) b) ∙ ap (λ i. told b ++ opened id (i + 1) columns ∷ []) x.hears.given);
  first = x.first;
  started = x.hears.quiet;
  alone = refl;
  role = x.hears.role;
  messages = x.hears.messages;
  given = ap (λ i. i + 1) x.hears.given;
  number = λ i own cs e. same_number id i (c.given + 1) own columns cs e;
  lost = lost;
  comes = λ own e. by own (is_own own b.subs) refl e;
}
  where
    t : Told
    t = opened id (c.given + 1) columns

    d : Client
    d = following k (told_one es (opened id (b.given + 1) columns) b)

    x_new : Sub
    x_new = record { own = b.given + 1; feed = k }

    by : (own : ℕ) (a : Bool) → is_own own b.subs ≡ a → is_own own (b.subs ++ x_new ∷ []) ≡ true → (is_own own c.subs ≡ true) ⊎ ((true ≡ true) × (own ≡ c.given + 1))
    by own true f e = inl (is_own-before c b own (x.hears.none own) f)
    by own false f e = inr (refl, last (own == (b.given + 1)) refl (sym (any_of_both (λ (y : Sub). own == y.own) b.subs (x_new ∷ []) ∙ ap (λ z. z || is_own own (x_new ∷ [])) f) ∙ e))
      where
        last : (d : Bool) → (own == (b.given + 1)) ≡ d → ((own == (b.given + 1)) || false) ≡ true → own ≡ c.given + 1
        last true g i = eqb-true own (b.given + 1) g ∙ ap (λ z. z + 1) x.hears.given
        last false g i = absurd (false≢true (sym (ap (λ z. z || false) g) ∙ i))

    lost : (own : ℕ) → (is_own own c.subs ≡ true) ⊎ ((true ≡ true) × (own ≡ c.given + 1)) → is_own own (b.subs ++ record { own = b.given + 1; feed = k } ∷ []) ≡ false
        → (ends_for own (x.hears.more ++ t ∷ []) ≡ true) ⊎ IsClosing own s t
    lost own (inl i) e = inl (list_any-append_front (is_end_of own) x.hears.more (t ∷ []) (x.hears.lost own i (or-both_false (is_own own b.subs) (is_own own (x_new ∷ [])) (sym (any_of_both (λ (y : Sub). own == y.own) b.subs (x_new ∷ [])) ∙ e)).0))
    lost own (inr i) e = absurd (false≢true (sym e ∙ list_any-append_back (λ (y : Sub). own == y.own) b.subs (x_new ∷ [])
        (ap (λ z. (z == (b.given + 1)) || false) (i.1 ∙ ap (λ z. z + 1) (sym x.hears.given)) ∙ ap (λ z. z || false) (eq-itself (b.given + 1)))))

pub kept_other : (a own : ℕ) (xs : List Sub) → (a == own) ≡ false → is_own own (filter (λ x. not (a == x.own)) xs) ≡ is_own own xs
kept_other a own [] h = refl
kept_other a own (x ∷ xs) h = by (a == x.own) (own == x.own) refl refl (kept_other a own xs h)
  where
    by : (b d : Bool) → (a == x.own) ≡ b → (own == x.own) ≡ d → is_own own (filter (λ y. not (a == y.own)) xs) ≡ is_own own xs
        → is_own own (cond (not b) (x ∷ filter (λ y. not (a == y.own)) xs) (filter (λ y. not (a == y.own)) xs)) ≡ (d || is_own own xs)
    by true true e f more = absurd (false≢true (sym h ∙ (ap (λ z. a == z) (eqb-true own x.own f) ∙ e)))
    by true false e f more = more
    by false d e f more = (λ i. f i || more i)

pub is_own-filter : (own : ℕ) (xs : List Sub) → is_own own (filter (λ x. not (own == x.own)) xs) ≡ false
is_own-filter own [] = refl
is_own-filter own (x ∷ xs) = by (own == x.own) refl (is_own-filter own xs)
  where
    by : (b : Bool) → (own == x.own) ≡ b → is_own own (filter (λ y. not (own == y.own)) xs) ≡ false → is_own own (cond (not b) (x ∷ filter (λ y. not (own == y.own)) xs) (filter (λ y. not (own == y.own)) xs)) ≡ false
    by true e more = more
    by false e more = (λ i. e i || more i)

-- its number follows nothing any more, and it is told so
answer_closed : (g : Gate) (es : List Entry) (id : Option Data) (own : ℕ) (c : Client) → Answer g (request id (unsubscribe own)) (replied id done) c (told_one es (replied id done) (closing own c))
answer_closed g es id own c = record {
  before = [];
  others = [];
  text = ap (λ (v : Seer). v.told) (seer-told_one es (replied id done) (closing own c));
  first = λ q. refl;
  started = refl;
  alone = refl;
  role = refl;
  messages = refl;
  given = refl;
  number = λ i n cs e. absurd (false≢true (ap is_opened e));
  lost = lost;
  comes = λ i k. inl (is_own-before c (closing own c) i (λ h. list_any-filter i (λ x. not (own == x.own)) c.subs h) k);
}
  where
    lost : (i : ℕ) → (is_own i c.subs ≡ true) ⊎ ((false ≡ true) × (i ≡ c.given + 1)) → is_own i (filter (λ x. not (own == x.own)) c.subs) ≡ false
        → (ends_for i (replied id done ∷ []) ≡ true) ⊎ IsClosing i (request id (unsubscribe own)) (replied id done)
    lost i (inl h) k = by (own == i) refl
      where
        by : (b : Bool) → (own == i) ≡ b → (ends_for i (replied id done ∷ []) ≡ true) ⊎ IsClosing i (request id (unsubscribe own)) (replied id done)
        by true e = inr (record { id = id; asks = ap (λ j. request id (unsubscribe j)) (eqb-true own i e); tells = refl })
        by false e = absurd (false≢true (sym k ∙ (kept_other own i c.subs e ∙ h)))
    lost i (inr h) k = absurd (false≢true h.0)

pub answer_more : (g : Gate) (s : Message) (t : Told) (c d e : Client) → Answer g s t c d → Hears d e → Answer g s t c e
answer_more g s t c d e a x = record {
  before = a.before;
  others = a.others ++ x.more;
  text = x.text ∙ (ap (λ z. z ++ x.more) a.text ∙ (append-associative (told c) (a.before ++ t ∷ a.others) x.more ∙ ap (λ z. told c ++ z) (append-associative a.before (t ∷ a.others) x.more)));
  first = a.first;
  started = a.started;
  alone = replies-none a.others x.more a.alone x.quiet;
  role = x.role ∙ a.role;
  messages = x.messages ∙ a.messages;
  given = x.given ∙ a.given;
  number = a.number;
  lost = λ own h k. by own h k (is_own own d.subs) refl;
  comes = λ own k. a.comes own (is_own-before d e own (x.none own) k);
}
  where
    whole : (own : ℕ) → ends_for own ((a.before ++ t ∷ a.others) ++ x.more) ≡ true → ends_for own (a.before ++ t ∷ (a.others ++ x.more)) ≡ true
    whole own h = ap (λ z. ends_for own z) (sym (append-associative a.before (t ∷ a.others) x.more)) ∙ h

    first : (own : ℕ) → (ends_for own (a.before ++ t ∷ a.others) ≡ true) ⊎ IsClosing own s t → (ends_for own (a.before ++ t ∷ (a.others ++ x.more)) ≡ true) ⊎ IsClosing own s t
    first own (inl h) = inl (whole own (list_any-append_front (is_end_of own) (a.before ++ t ∷ a.others) x.more h))
    first own (inr h) = inr h

    by : (own : ℕ) → (is_own own c.subs ≡ true) ⊎ ((is_opened t ≡ true) × (own ≡ c.given + 1)) → is_own own e.subs ≡ false → (b : Bool) → is_own own d.subs ≡ b
        → (ends_for own (a.before ++ t ∷ (a.others ++ x.more)) ≡ true) ⊎ IsClosing own s t
    by own h k true f = inl (whole own (list_any-append_back (is_end_of own) (a.before ++ t ∷ a.others) x.more (x.lost own f k)))
    by own h k false f = first own (a.lost own h f)

-- ---- the steps behind a reply

abbrev pub Behind : ℕ → Slots → Slots → Type 0
Behind m old new = (c : Client) → client_at old m ≡ Some c → Later (λ j x y. Hears x y) new m c

module _ (m : ℕ) where
  behind_same : (slots : Slots) → Behind m slots slots
  behind_same slots c h = record { now = c; there = h; so = Hears-itself c }

  pub behind_then : (a b c : Slots) → Behind m a b → Behind m b c → Behind m a c
  behind_then a b c f g x h = let p = f x h in let q = g p.now p.there in record { now = q.now; there = q.there; so = Hears-trans x p.now q.now p.so q.so }

  behind_all : (f : Client → Client) → ((c : Client) → Hears c (f c)) → (slots : Slots) → Behind m slots (at_all f slots)
  behind_all f k slots c h = record { now = f c; there = client_at-at_all f slots m ∙ ap (option_map f) h; so = k c }

  behind_one : (f : Client → Client) → ((c : Client) → Hears c (f c)) → (slots : Slots) → Behind m slots (at_client m f slots)
  behind_one f k slots c h = record { now = f c; there = client_at-at_client m f slots ∙ ap (option_map f) h; so = k c }

  behind_some : {X : Type 0} (o : Option X) (a : Slots) (h : Gate) (f : X → Gate) → Behind m a h.clients → ((x : X) → Behind m a (f x).clients) → Behind m a (if_some o h f).clients
  behind_some None a h f x y = x
  behind_some (Some v) a h f x y = y v

  behind_test : (b : Bool) (a : Slots) (h i : Gate) → Behind m a h.clients → Behind m a i.clients → Behind m a (cond b h i).clients
  behind_test true a h i x y = x
  behind_test false a h i x y = y

  pub behind_ran : (g : Gate) (k : Command) → Behind m g.clients (ran g k).clients
  behind_ran g k = behind_all (λ c. staying (step g.machine k).lines (telling g.entries (told_of g k.act (step g.machine k) c) c)) (λ c. Hears-staying c g k) g.clients

  pub behind_settles : (g : Gate) → Behind m g.clients (settles g).clients
  behind_settles g = behind_all (settling g.entries) (λ c. Hears-settling g.entries c) g.clients

  pub behind_informs : (g : Gate) (es : List Entry) → Behind m g.clients (informs g es).clients
  behind_informs g es = behind_all (λ c. telling g.entries (shape_for c.role es) c)
      (λ c. Hears-telling g.entries (shape_for c.role es) c (all_made (λ t. is_reply t ≡ false) (λ role line. refl) c.role es)) g.clients

  behind_shut : (g : Gate) (f : Feed) → Behind m g.clients (shut g f).clients
  behind_shut g f = behind_ran (record g { feeds = without_feed f.number g.feeds }) (in_session f.session (unsubscribe f.number))

  pub behind_swept : (g : Gate) (k : ℕ) → Behind m g.clients (swept g k).clients
  behind_swept g k =
      behind_test (is_followed k g.clients) g.clients g (if_some (feed_of g.feeds k) g (shut g)) (behind_same g.clients)
      (behind_some (feed_of g.feeds k) g.clients g (shut g) (behind_same g.clients) (λ f. behind_shut g f))

  behind_joined : (g : Gate) (t k : Option Feed) → Behind m g.clients (joined g m t k).clients
  behind_joined g (Some t) (Some k) =
      let h = record g { clients = at_client m (moved t.number k.number) g.clients } in
      behind_test (is_reading t.role t.rel k && not (t.number == k.number)) g.clients (shut h t) g
      (behind_then g.clients h.clients (shut h t).clients (behind_one (moved t.number k.number) (λ c. Hears-moved c t.number k.number) g.clients) (behind_shut h t)) (behind_same g.clients)
  behind_joined g (Some t) None = behind_same g.clients
  behind_joined g None k = behind_same g.clients

  behind_joined_by : (g : Gate) (k : ℕ) (r : Reply) → Behind m g.clients (joined_by g m k r).clients
  behind_joined_by g k (subscribed t) = behind_joined g (feed_of g.feeds t) (feed_of g.feeds k)
  behind_joined_by g k done = behind_same g.clients
  behind_joined_by g k (refused r) = behind_same g.clients

-- ---- which reply

abbrev pub begun_reply : Gate → Client → Option Data → ℕ → Name → Told
begun_reply g c id n rel = reading_told g.machine c id rel (reply_to g (in_session n (subscribe rel)))

abbrev pub first_reply : Gate → Client → Option Data → Name → Name → Told
first_reply g c id role rel = if_some (room_for g.seats g.feeds role)
    (if_some (begun_for g role) (replied id (refused too_many)) (λ n. begun_reply (seated g n role) c id n rel))
    (λ n. begun_reply g c id n rel)

abbrev pub read_reply : Gate → Client → Option Data → Name → Told
read_reply g c id rel = if nat_lt (length c.subs) most_subs then if_some (feed_for g.feeds c.role rel) (first_reply g c id c.role rel) (λ f. begun_reply g c id f.session f.rel)
    else replied id (refused too_many)

-- the machine's reply to a request that changes what is shared, or the refusal
abbrev pub carried_reply : Gate → Request → Reply
carried_reply g q = if has_shape_room g q.act then if_some (seat_of g.seats q.role) (refused no_session) (λ n. reply_to g (in_session n q.act)) else refused limit

abbrev pub done_reply : Gate → Option Data → Request → Option Ask → Reply → Told
done_reply g id q name r = reply_told (entered g (entries_of (next_position g) q name r)) id name r

abbrev pub decided_reply : Gate → Option Data → Request → Option Ask → Told
decided_reply g id q name = if is_elsewhere g name then decided_elsewhere id name else done_reply g id q name (carried_reply g q)

abbrev pub verdict_reply : Gate → Option Data → Request → Ask → Verdict → Told
verdict_reply g id q a carry = decided_reply g id q (Some a)
verdict_reply g id q a (again answer) = texts.answered id true (place_text (place_of g a.holder)) answer
verdict_reply g id q a another = undecided id 101
verdict_reply g id q a late = undecided id 102
verdict_reply g id q a foreign = undecided id (number_here g 103)
verdict_reply g id q a _ = undecided id (number_here g 104)

abbrev pub shared_reply : Gate → Client → Option Data → Request → Option Claim → Told
shared_reply g c id q claim = if_some claim (decided_reply g id q None) (λ k. let a = asked_by c q.line k in verdict_reply g id q a (verdict (names_of g) a))

abbrev pub act_reply : Gate → Client → Option Data → List ℕ → Act → Told
act_reply g c id text (begin role) = fault 2
act_reply g c id text finish = fault 2
act_reply g c id text (subscribe rel) = read_reply g c id rel
act_reply g c id text (unsubscribe own) = replied id (if is_some (followed_by c.subs own) then done else refused unknown_subscription)
act_reply g c id text act = shared_reply g c id (request_of c text act) (claim_said text)

abbrev pub said_reply : Gate → Client → List ℕ → Message → Told
said_reply g c text no_json = fault 1
said_reply g c text too_long = fault 22
said_reply g c text no_object = fault 2
said_reply g c text (no_request id why) = unasked id why
said_reply g c text (request id act) = cond (may_have (claim_said text) act) (act_reply g c id text act) (unasked id (unknown (codes "once")))

-- ---- what it adds to the journal

abbrev pub decided_added : Gate → Request → Option Ask → List Entry
decided_added g q name = if is_elsewhere g name then [] else entries_of (next_position g) q name (carried_reply g q)

abbrev pub verdict_added : Gate → Request → Ask → Verdict → List Entry
verdict_added g q a carry = decided_added g q (Some a)
verdict_added g q a _ = []

abbrev pub shared_added : Gate → Client → Request → Option Claim → List Entry
shared_added g c q claim = if_some claim (decided_added g q None) (λ k. let a = asked_by c q.line k in verdict_added g q a (verdict (names_of g) a))

abbrev pub act_added : Gate → Client → List ℕ → Act → List Entry
act_added g c text (begin role) = []
act_added g c text finish = []
act_added g c text (subscribe rel) = []
act_added g c text (unsubscribe own) = []
act_added g c text act = shared_added g c (request_of c text act) (claim_said text)

abbrev pub said_added : Gate → Client → List ℕ → Message → List Entry
said_added g c text (request id act) = cond (may_have (claim_said text) act) (act_added g c text act) []
said_added g c text _ = []

-- that is nothing, or what a request adds that changes what is shared
module _ (P : List Entry → Type 0) (g : Gate) (c : Client) (text : List ℕ) (none : P []) (some : (q : Request) → P (shared_added g c q (claim_said text))) where
  act_so : (act : Act) → P (act_added g c text act)
  act_so (begin role) = none
  act_so finish = none
  act_so (subscribe rel) = none
  act_so (unsubscribe own) = none
  act_so act = some (request_of c text act)

  pub added_so : (s : Message) → P (said_added g c text s)
  added_so no_json = none
  added_so too_long = none
  added_so no_object = none
  added_so (no_request id why) = none
  added_so (request id act) = by (may_have (claim_said text) act)
    where
      by : (b : Bool) → P (cond b (act_added g c text act) [])
      by true = act_so act
      by false = none

nothing_added : (g h : Gate) → h.entries ≡ g.entries → h.entries ≡ g.entries ++ []
nothing_added g h e = e ∙ sym (append-nil g.entries)

module _ (g : Gate) (m : ℕ) (c : Client) (id : Option Data) where
  adds_decided : (q : Request) (name : Option Ask) → (decides g m id q name).entries ≡ g.entries ++ decided_added g q name
  adds_decided q name = by (is_elsewhere g name) (has_shape_room g q.act) (seat_of g.seats q.role)
    where
      by : (l b : Bool) (o : Option ℕ)
          → (cond l (tells g m (decided_elsewhere id name)) (cond b (if_some o (replies_to g m id q name (refused no_session)) (done_in g m id q name)) (replies_to g m id q name (refused limit)))).entries
          ≡ g.entries ++ cond l [] (entries_of (next_position g) q name (cond b (if_some o (refused no_session) (λ n. reply_to g (in_session n q.act))) (refused limit)))
      by true b o = sym (append-nil g.entries)
      by false true None = refl
      by false true (Some n) = refl
      by false false o = refl

  adds_verdict : (q : Request) (a : Ask) (v : Verdict) → (by_verdict g m id q a v).entries ≡ g.entries ++ verdict_added g q a v
  adds_verdict q a carry = adds_decided q (Some a)
  adds_verdict q a (again answer) = sym (append-nil g.entries)
  adds_verdict q a another = sym (append-nil g.entries)
  adds_verdict q a late = sym (append-nil g.entries)
  adds_verdict q a foreign = sym (append-nil g.entries)
  adds_verdict q a ahead = sym (append-nil g.entries)
  adds_verdict q a over = sym (append-nil g.entries)

  adds_shared : (q : Request) (claim : Option Claim) → (shares g m c id q claim).entries ≡ g.entries ++ shared_added g c q claim
  adds_shared q None = adds_decided q None
  adds_shared q (Some k) = let a = asked_by c q.line k in adds_verdict q a (verdict (names_of g) a)

  adds_act : (text : List ℕ) (act : Act) → (acts g m c id text act).entries ≡ g.entries ++ act_added g c text act
  adds_act text (begin role) = sym (append-nil g.entries)
  adds_act text finish = sym (append-nil g.entries)
  adds_act text (subscribe rel) = nothing_added g (reads g m c id rel) (step_reads m (Keeps (HasEntries g.entries)) (entries_kit g.entries m) g c id rel refl)
  adds_act text (unsubscribe own) = nothing_added g (closes g m c id own) (step_closes m (Keeps (HasEntries g.entries)) (entries_kit g.entries m) g c id own refl)
  adds_act text act = adds_shared (request_of c text act) (claim_said text)

pub entries-done_for : (g : Gate) (m : ℕ) (c : Client) (text : List ℕ) (s : Message) → (done_for g m c text s).entries ≡ g.entries ++ said_added g c text s
entries-done_for g m c text no_json = sym (append-nil g.entries)
entries-done_for g m c text too_long = sym (append-nil g.entries)
entries-done_for g m c text no_object = sym (append-nil g.entries)
entries-done_for g m c text (no_request id why) = sym (append-nil g.entries)
entries-done_for g m c text (request id act) = by (may_have (claim_said text) act)
  where
    by : (b : Bool) → (cond b (acts g m c id text act) (tells g m (unasked id (unknown (codes "once"))))).entries ≡ g.entries ++ cond b (act_added g c text act) []
    by true = adds_act g m c id text act
    by false = sym (append-nil g.entries)

-- ---- the walk

abbrev pub Answers : Gate → Message → Told → ℕ → Client → Slots → Type 0
Answers g s t m c slots = Later (λ j x y. Answer g s t x y) slots m c

answers_then : (g : Gate) (s : Message) (t : Told) (m : ℕ) (c : Client) (a b : Slots) → Answers g s t m c a → Behind m a b → Answers g s t m c b
answers_then g s t m c a b p f = let q = f p.now p.there in record { now = q.now; there = q.there; so = answer_more g s t c p.now q.now p.so q.so }

-- told, where a session may have been begun before
answers_tells : (g h : Gate) (s : Message) (t : Told) (m : ℕ) (c b : Client) → Began g c b → is_opened t ≡ false → client_at h.clients m ≡ Some b → Answers g s t m c (tells h m t).clients
answers_tells g h s t m c b x o e = record {
  now = told_one h.entries t b;
  there = client_at-at_client m (told_one h.entries t) h.clients ∙ ap (option_map (told_one h.entries t)) e;
  so = answer_plain g s h.entries t c b x o;
}

answers_plain : (g : Gate) (s : Message) (t : Told) (m : ℕ) (c : Client) → is_opened t ≡ false → client_at g.clients m ≡ Some c → Answers g s t m c (tells g m t).clients
answers_plain g s t m c o e = answers_tells g g s t m c c (Began-itself g c) o e

answers_begun : (g h : Gate) (s : Message) (id : Option Data) (n : ℕ) (role rel : Name) (m : ℕ) (c b : Client) (r : Reply) → Began g c b → client_at h.clients m ≡ Some b
    → Answers g s (reading_told h.machine c id rel r) m c (feed_begun h m id n role rel r).clients
answers_begun g h s id n role rel m c b (subscribed t) x e =
    let o : next_own h m ≡ b.given + 1 = ap (λ z. if_some z 0 (λ (d : Client). d.given + 1)) e in
    let f = told_one h.entries (opened id (next_own h m) (columns_in h.machine rel)) in
    record {
      now = following t (f b);
      there =
          client_at-at_client m (following t) (at_client m f h.clients) ∙ ap (option_map (following t)) (client_at-at_client m f h.clients ∙ ap (option_map f) e);
      so = subst (λ i. Answer g s (opened id (c.given + 1) (columns_in h.machine rel)) c (following t (told_one h.entries (opened id i (columns_in h.machine rel)) b))) (sym o)
          (answer_opened g s h.entries id (columns_in h.machine rel) t c b x);
    }
answers_begun g h s id n role rel m c b done x e = answers_tells g h s (replied id done) m c b x refl e
answers_begun g h s id n role rel m c b (refused r) x e = answers_tells g h s (replied id (refused r)) m c b x refl e

answers_subscribes : (g h : Gate) (s : Message) (id : Option Data) (n : ℕ) (role rel : Name) (m : ℕ) (c b : Client) → Began g c b → client_at h.clients m ≡ Some b
    → Answers g s (begun_reply h c id n rel) m c (subscribes h m id n role rel).clients
answers_subscribes g h s id n role rel m c b x e =
    let k = in_session n (subscribe rel) in let i = feed_begun h m id n role rel (reply_to h k) in
    answers_then g s (begun_reply h c id n rel) m c i.clients (ran i k).clients (answers_begun g h s id n role rel m c b (reply_to h k) x e) (behind_ran m i k)

answers_first : (g : Gate) (s : Message) (id : Option Data) (role rel : Name) (m : ℕ) (c : Client) → client_at g.clients m ≡ Some c → Answers g s (first_reply g c id role rel) m c (reads_first g m id role rel).clients
answers_first g s id role rel m c e = by (room_for g.seats g.feeds role)
  where
    further : (o : Option ℕ) → Answers g s (if_some o (replied id (refused too_many)) (λ n. begun_reply (seated g n role) c id n rel)) m c
        (if_some o (tells g m (replied id (refused too_many))) (λ n. subscribes (seated g n role) m id n role rel)).clients
    further None = answers_plain g s (replied id (refused too_many)) m c refl e
    further (Some n) = let p = Later-seated g n role m c e in answers_subscribes g (seated g n role) s id n role rel m c p.now p.so p.there

    by : (o : Option ℕ) → Answers g s (if_some o (if_some (begun_for g role) (replied id (refused too_many)) (λ n. begun_reply (seated g n role) c id n rel)) (λ n. begun_reply g c id n rel)) m c
        (if_some o (if_some (begun_for g role) (tells g m (replied id (refused too_many))) (λ n. subscribes (seated g n role) m id n role rel)) (λ n. subscribes g m id n role rel)).clients
    by None = further (begun_for g role)
    by (Some n) = answers_subscribes g g s id n role rel m c c (Began-itself g c) e

answers_joins : (g : Gate) (s : Message) (id : Option Data) (f : Feed) (m : ℕ) (c : Client) → client_at g.clients m ≡ Some c → Answers g s (begun_reply g c id f.session f.rel) m c (joins g m id f).clients
answers_joins g s id f m c e =
    let h = subscribes g m id f.session f.role f.rel in let r = reply_to g (in_session f.session (subscribe f.rel)) in
    answers_then g s (begun_reply g c id f.session f.rel) m c h.clients (joined_by h m f.number r).clients
    (answers_subscribes g g s id f.session f.role f.rel m c c (Began-itself g c) e) (behind_joined_by m h f.number r)

-- `c` is the client as it was heard, and its message is counted since
module _ (g : Gate) (m : ℕ) (c : Client) (text : List ℕ) where
  answers_reads : (s : Message) (id : Option Data) (rel : Name) → client_at g.clients m ≡ Some (saying text c) → Answers g s (read_reply g c id rel) m (saying text c) (reads g m c id rel).clients
  answers_reads s id rel e = test (nat_lt (length c.subs) most_subs)
    where
      by : (o : Option Feed) → Answers g s (if_some o (first_reply g c id c.role rel) (λ f. begun_reply g c id f.session f.rel)) m (saying text c) (if_some o (reads_first g m id c.role rel) (joins g m id)).clients
      by None = answers_first g s id c.role rel m (saying text c) e
      by (Some f) = answers_joins g s id f m (saying text c) e

      test : (b : Bool) → Answers g s (cond b (if_some (feed_for g.feeds c.role rel) (first_reply g c id c.role rel) (λ f. begun_reply g c id f.session f.rel)) (replied id (refused too_many))) m (saying text c)
          (cond b (if_some (feed_for g.feeds c.role rel) (reads_first g m id c.role rel) (joins g m id)) (tells g m (replied id (refused too_many)))).clients
      test true = by (feed_for g.feeds c.role rel)
      test false = answers_plain g s (replied id (refused too_many)) m (saying text c) refl e

  answers_closes : (id : Option Data) (own : ℕ) → client_at g.clients m ≡ Some (saying text c)
      → Answers g (request id (unsubscribe own)) (replied id (if is_some (followed_by c.subs own) then done else refused unknown_subscription)) m (saying text c) (closes g m c id own).clients
  answers_closes id own e = by (followed_by c.subs own)
    where
      h : Gate
      h = record g { clients = at_client m (closing own) g.clients }

      by : (o : Option ℕ) → Answers g (request id (unsubscribe own)) (replied id (if is_some o then done else refused unknown_subscription)) m (saying text c)
          (if_some o (tells g m (replied id (refused unknown_subscription))) (λ k. swept (tells (record g { clients = at_client m (closing own) g.clients }) m (replied id done)) k)).clients
      by None = answers_plain g (request id (unsubscribe own)) (replied id (refused unknown_subscription)) m (saying text c) refl e
      by (Some k) = answers_then g (request id (unsubscribe own)) (replied id done) m (saying text c) (tells h m (replied id done)).clients (swept (tells h m (replied id done)) k).clients
          (record {
            now = told_one g.entries (replied id done) (closing own (saying text c));
            there = client_at-at_client m (told_one g.entries (replied id done)) h.clients ∙ ap (option_map (told_one g.entries (replied id done))) (client_at-at_client m (closing own) g.clients ∙ ap (option_map (closing own)) e);
            so = answer_closed g g.entries id own (saying text c);
          }) (behind_swept m (tells h m (replied id done)) k)

  -- a request that changes what is shared
  answers_replied : (s : Message) (id : Option Data) (q : Request) (name : Option Ask) (r : Reply) → client_at g.clients m ≡ Some (saying text c)
      → Answers g s (done_reply g id q name r) m (saying text c) (replies_to g m id q name r).clients
  answers_replied s id q name r e =
      let h = entered g (entries_of (next_position g) q name r) in answers_tells g h s (reply_told h id name r) m (saying text c) (saying text c) (Began-itself g (saying text c)) (opens_none h name) e
    where
      opens_none : (h : Gate) (o : Option Ask) → is_opened (reply_told h id o r) ≡ false
      opens_none h None = refl
      opens_none h (Some a) = refl

  answers_does : (s : Message) (id : Option Data) (q : Request) (name : Option Ask) (n : ℕ) → client_at g.clients m ≡ Some (saying text c)
      → Answers g s (done_reply g id q name (reply_to g (in_session n q.act))) m (saying text c) (done_in g m id q name n).clients
  answers_does s id q name n e =
      let k = in_session n q.act in let r = reply_to g k in let i = replies_to g m id q name r in let more = entries_of (next_position g) q name r in
      answers_then g s (done_reply g id q name r) m (saying text c) i.clients (informs (ran i k) more).clients (answers_replied s id q name r e)
      (behind_then m i.clients (ran i k).clients (informs (ran i k) more).clients (behind_ran m i k) (behind_informs m (ran i k) more))

  answers_decided : (s : Message) (id : Option Data) (q : Request) (name : Option Ask) → client_at g.clients m ≡ Some (saying text c)
      → Answers g s (decided_reply g id q name) m (saying text c) (decides g m id q name).clients
  answers_decided s id q name e = by (is_elsewhere g name) (has_shape_room g q.act) (seat_of g.seats q.role)
    where
      aside : (o : Option Ask) → is_opened (decided_elsewhere id o) ≡ false
      aside None = refl
      aside (Some a) = refl

      by : (l b : Bool) (o : Option ℕ)
          → Answers g s (cond l (decided_elsewhere id name) (done_reply g id q name (cond b (if_some o (refused no_session) (λ n. reply_to g (in_session n q.act))) (refused limit)))) m (saying text c)
          (cond l (tells g m (decided_elsewhere id name)) (cond b (if_some o (replies_to g m id q name (refused no_session)) (done_in g m id q name)) (replies_to g m id q name (refused limit)))).clients
      by true b o = answers_plain g s (decided_elsewhere id name) m (saying text c) (aside name) e
      by false true None = answers_replied s id q name (refused no_session) e
      by false true (Some n) = answers_does s id q name n e
      by false false o = answers_replied s id q name (refused limit) e

  answers_verdict : (s : Message) (id : Option Data) (q : Request) (a : Ask) (v : Verdict) → client_at g.clients m ≡ Some (saying text c)
      → Answers g s (verdict_reply g id q a v) m (saying text c) (by_verdict g m id q a v).clients
  answers_verdict s id q a carry e = answers_decided s id q (Some a) e
  answers_verdict s id q a (again answer) e = answers_plain g s (texts.answered id true (place_text (place_of g a.holder)) answer) m (saying text c) refl e
  answers_verdict s id q a another e = answers_plain g s (undecided id 101) m (saying text c) refl e
  answers_verdict s id q a late e = answers_plain g s (undecided id 102) m (saying text c) refl e
  answers_verdict s id q a foreign e = answers_plain g s (undecided id (number_here g 103)) m (saying text c) refl e
  answers_verdict s id q a ahead e = answers_plain g s (undecided id (number_here g 104)) m (saying text c) refl e
  answers_verdict s id q a over e = answers_plain g s (undecided id (number_here g 104)) m (saying text c) refl e

  answers_shared : (s : Message) (id : Option Data) (q : Request) (claim : Option Claim) → client_at g.clients m ≡ Some (saying text c)
      → Answers g s (shared_reply g c id q claim) m (saying text c) (shares g m c id q claim).clients
  answers_shared s id q None e = answers_decided s id q None e
  answers_shared s id q (Some k) e = let a = asked_by c q.line k in answers_verdict s id q a (verdict (names_of g) a) e

  answers_acts : (id : Option Data) (act : Act) → client_at g.clients m ≡ Some (saying text c) → Answers g (request id act) (act_reply g c id text act) m (saying text c) (acts g m c id text act).clients
  answers_acts id (begin role) e = answers_plain g (request id (begin role)) (fault 2) m (saying text c) refl e
  answers_acts id finish e = answers_plain g (request id finish) (fault 2) m (saying text c) refl e
  answers_acts id (subscribe rel) e = answers_reads (request id (subscribe rel)) id rel e
  answers_acts id (unsubscribe own) e = answers_closes id own e
  answers_acts id act e = answers_shared (request id act) id (request_of c text act) (claim_said text) e

  answers_done : (s : Message) → client_at g.clients m ≡ Some (saying text c) → Answers g s (said_reply g c text s) m (saying text c) (done_for g m c text s).clients
  answers_done no_json e = answers_plain g no_json (fault 1) m (saying text c) refl e
  answers_done too_long e = answers_plain g too_long (fault 22) m (saying text c) refl e
  answers_done no_object e = answers_plain g no_object (fault 2) m (saying text c) refl e
  answers_done (no_request id why) e = answers_plain g (no_request id why) (unasked id why) m (saying text c) refl e
  answers_done (request id act) e = by (may_have (claim_said text) act)
    where
      by : (b : Bool) → Answers g (request id act) (cond b (act_reply g c id text act) (unasked id (unknown (codes "once")))) m (saying text c)
          (cond b (acts g m c id text act) (tells g m (unasked id (unknown (codes "once"))))).clients
      by true = answers_acts id act e
      by false = answers_plain g (request id act) (unasked id (unknown (codes "once"))) m (saying text c) refl e

-- ---- a message that is heard

abbrev pub asked : Gate → ℕ → List ℕ → Gate
asked g m text = record g { clients = at_client m (saying text) g.clients }

pub Grown-done_for : (g : Gate) (m : ℕ) (c : Client) (text : List ℕ) (d : Client) → client_at (asked g m text).clients m ≡ Some (saying text c)
    → client_at (settles (done_for (asked g m text) m c text (said_by text))).clients m ≡ Some d → Grown c d
Grown-done_for g m c text d there e =
    let h = asked g m text in let did = done_for h m c text (said_by text) in
    let p = to_then m (λ i x y. Grown x y) (Kit-Grown m) h.clients did.clients (settles did).clients (to_done m (λ i x y. Grown x y) (Kit-Grown m) h c text (said_by text)) (to_settles m (λ i x y. Grown x y) (Kit-Grown m) did) m (saying text c) there in
    let x : Grown (saying text c) d = subst (Grown (saying text c)) (same-Some p.now d (sym p.there ∙ e)) p.so in
    record { more = x.more; handed = x.handed; sendable = x.sendable; unsynced = x.unsynced }

-- what comes of it is told as it was
answer_marked : (g : Gate) (s : Message) (t : Told) (b c d : Client) → Grown b d → Answer g s t c d → Answer g s t c (answered b d)
answer_marked g s t b c d x a = record {
  before = a.before;
  others = a.others;
  text = told-answered b d x ∙ a.text;
  first = a.first;
  started = a.started;
  alone = a.alone;
  role = a.role;
  messages = a.messages;
  given = a.given;
  number = a.number;
  lost = a.lost;
  comes = a.comes;
}

pub Answers-hears : (g : Gate) (m : ℕ) (c : Client) (text : List ℕ) → client_at g.clients m ≡ Some c
    → Answers (asked g m text) (said_by text) (said_reply (asked g m text) c text (said_by text)) m (saying text c) (hears g m c text).clients
Answers-hears g m c text e =
    let h = asked g m text in let s = said_by text in let t = said_reply h c text s in let did = done_for h m c text s in
    let there : client_at h.clients m ≡ Some (saying text c) = client_at-at_client m (saying text) g.clients ∙ ap (option_map (saying text)) e in
    let p = answers_then h s t m (saying text c) did.clients (settles did).clients (answers_done h m c text s there) (behind_settles m did) in
    record {
      now = answered c p.now;
      there = client_at-at_client m (answered c) (settles did).clients ∙ ap (option_map (answered c)) p.there;
      so = answer_marked h s t c (saying text c) p.now (Grown-done_for g m c text p.now there p.there) p.so;
    }
