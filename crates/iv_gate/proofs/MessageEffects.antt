-- What is done for a message: its client is told one thing, a command is run, or a subscription is opened.
use Rattle.std.proofs.Common.{◌≡◌, ℕ, zero, suc, ◌+◌, ◌≤◌, Bool, true, false, cond, not, List, [], ◌∷◌, ◌++◌, length, map, Option, Some, None, refl, ap, ◌∙◌, sym, subst, arith, append-nil, ◌||◌}
use Rattle.std.specs.Prelude.{◌==◌, ◌&&◌, filter, nat_lt, codes, is_some}
use Rattle.std.specs.List.{AllByRecursion, list_any}
use Rattle.std.proofs.lemmas.Bool.{ltb-true}
use Rattle.serde_json.specs.Data.{Data}
use Rattle.iv_rows.specs.Options.{if_some}
use Rattle.iv_access.specs.Rights.{Name}
use Rattle.iv_machine.specs.Act.{Act, begin, finish, subscribe, unsubscribe, Refusal, Reply, done, subscribed, refused, too_many, unknown_subscription}
use Rattle.iv_machine.specs.Machine.{outcome}
use Rattle.iv_machine.specs.Refusing.{refusal}
use Rattle.iv_machine.specs.Sound.{IsSoundState}
use Rattle.iv_machine.specs.State.{State}
use Rattle.iv_message.specs.Message.{Message, no_json, too_long, no_object, no_request, request, unknown}
use Rattle.iv_message.specs.Told.{Told, changed, over, granted, replied, fault, unasked, denied, undecided, answered}
use Rattle.iv_clients.specs.Bounds.{most_subs}
use Rattle.iv_clients.specs.Clients.{Client, Slots, Sub, at_client, closing, followed_by, is_followed, moved, moved_sub, told, told_one}
use Rattle.iv_clients.specs.Feeds.{Feed, feed_for, feed_of, is_reading, room_for}
use Rattle.iv_records.specs.Journal.{Entry, is_shared, said_by, Request, claim_said, requests_in}
use Rattle.iv_gate.specs.Gate.{Gate, acts, begun_for, closes, done_for, feed_begun, in_session, joined, joined_by, joins, ran, reads, reads_first, reply_to, done_in, seated, shut, subscribes, swept, tells, answering, entered, entries_of, may_have, replies_to, reply_told, shares, is_accepted, next_position}
use Rattle.iv_gate.proofs.QuietCommands.{ran-one_line, seated-IsSoundState, clients-shut, last-shut, clients-swept, last-swept}
use Rattle.iv_gate.proofs.SameFeeds.{list_any-moved_sub}
use Rattle.iv_gate.proofs.NewSubscriptions.{reply_in-None, reply_in-Some}
use Rattle.iv_gate.proofs.SoundCommands.{Seer, Sounds, seer-told_one}
use Rattle.iv_gate.specs.Laws.{is_made, is_word}
use Rattle.iv_gate.proofs.ShapeTexts.{cond-either}
use Rattle.iv_once.specs.Names.{Ask}
use Rattle.iv_records.specs.Names.{Claim}
use Rattle.iv_gate.proofs.RequestFates.{IsAside, leaves, refers, repeats, shares_so}
use Rattle.std.proofs.lemmas.List.Concat.{flat_map-append}
use Rattle.iv_gate.proofs.StepRelations.{request_of}

-- ---- texts

-- it is of rows, of an end or of a grant
abbrev pub is_news : Told → Bool
is_news (changed own rows) = true
is_news (over own rel why rows) = true
is_news (granted rel) = true
is_news _ = false

abbrev pub AreCalm : List Told → Type 0
AreCalm ts = AllByRecursion (λ t. is_news t ≡ false) ts

pub told-told_one : (es : List Entry) (t : Told) (c : Client) → told (told_one es t c) ≡ told c ++ t ∷ []
told-told_one es t c = ap (λ (v : Seer). v.told) (seer-told_one es t c)

pub AreCalm-append : (ts us : List Told) → AreCalm ts → AreCalm us → AreCalm (ts ++ us)
AreCalm-append [] us a b = b
AreCalm-append (t ∷ ts) us a b = (a.0, AreCalm-append ts us a.1 b)

-- ---- what is done for a message

-- client m alone is told something, and a feed that it follows may be another one
pub record IsMoved (m : ℕ) (before after : Gate) : Type 0 where
  pub change : Client → Client
  pub told : (c : Client) → told (change c) ≡ told c
  pub given : (c : Client) → (change c).given ≡ c.given
  pub owns : (own : ℕ) (c : Client) → list_any (λ (x : Sub). own == x.own) (change c).subs ≡ list_any (λ (x : Sub). own == x.own) c.subs
  pub many : (c : Client) → length (change c).subs ≡ length c.subs
  pub owed : (c : Client) → (change c).owed ≡ c.owed
  pub last : after.machine.frame.last ≡ before.machine.frame.last
  pub entries : after.entries ≡ before.entries
  pub clients : after.clients ≡ at_client m change before.clients

-- a subscription is opened for a client that may follow one more, in a gateway that has the same clients and feeds
pub record HasRead (g : Gate) (m : ℕ) (c : Client) (h : Gate) : Type 0 where
  pub room : nat_lt (length c.subs) most_subs ≡ true
  pub id : Option Data
  pub session : ℕ
  pub role : Name
  pub rel : Name
  pub first : Gate
  pub clients : first.clients ≡ g.clients
  pub feeds : first.feeds ≡ g.feeds
  pub last : first.machine.frame.last ≡ g.machine.frame.last
  pub entries : first.entries ≡ g.entries
  pub state : IsSoundState first.machine
  pub accepted : refusal first.machine session (subscribe rel) ≡ None
  pub behind : IsMoved m (ran (feed_begun first m id session role rel (subscribed (first.machine.frame.last + 1))) (in_session session (subscribe rel))) h

-- client m is told one thing that is no news, no word of its own, and nothing of the shape
pub record HasAnswered (g : Gate) (m : ℕ) (h : Gate) : Type 0 where
  pub text : Told
  pub calm : is_news text ≡ false
  pub plain : is_word text ≡ false
  pub unmade : is_made text ≡ false
  pub change : Client → Client
  pub told : (c : Client) → told (change c) ≡ told c ++ text ∷ []
  pub fewer : (c : Client) → length (change c).subs ≤ length c.subs
  pub owed : (c : Client) → (change c).owed ≡ true
  pub last : h.machine.frame.last ≡ g.machine.frame.last
  -- a name that was refused may have joined the journal, and no request
  pub entries : requests_in h.entries ≡ requests_in g.entries
  pub clients : h.clients ≡ at_client m change g.clients

-- some message asks it
abbrev pub IsSaid : Act → Type 0
IsSaid act = (text : List ℕ) × (id : Option Data) × (said_by text ≡ request id act)

pub data IsDone (g : Gate) (m : ℕ) (c : Client) (h : Gate) : Type 0 where
  answers : HasAnswered g m h → IsDone g m c h
  asks : (id : Option Data) (q : Request) (name : Option Ask) (n : ℕ) → is_shared q.act ≡ true → IsSaid q.act → h ≡ done_in g m id q name n → IsDone g m c h
  opens : HasRead g m c h → IsDone g m c h

at_same_all : (m : ℕ) (slots : Slots) → at_client m (λ c. c) slots ≡ slots
at_same_all m [] = refl
at_same_all zero (None ∷ ss) = refl
at_same_all zero (Some c ∷ ss) = refl
at_same_all (suc m) (s ∷ ss) = ap (λ z. s ∷ z) (at_same_all m ss)

at_twice : (m : ℕ) (f e : Client → Client) (slots : Slots) → at_client m f (at_client m e slots) ≡ at_client m (λ c. f (e c)) slots
at_twice m f e [] = refl
at_twice zero f e (None ∷ ss) = refl
at_twice zero f e (Some c ∷ ss) = refl
at_twice (suc m) f e (s ∷ ss) = ap (λ z. s ∷ z) (at_twice m f e ss)

swept_entries : (g : Gate) (k : ℕ) → (swept g k).entries ≡ g.entries
swept_entries g k = by (is_followed k g.clients) (feed_of g.feeds k)
  where
    by : (t : Bool) (o : Option Feed) → (cond t g (if_some o g (shut g))).entries ≡ g.entries
    by true o = refl
    by false None = refl
    by false (Some f) = refl

pub telling_done : (g : Gate) (m : ℕ) (c : Client) (t : Told) → is_news t ≡ false → is_word t ≡ false → is_made t ≡ false → IsDone g m c (tells g m t)
telling_done g m c t calm plain unmade = answers (record {
  text = t;
  calm = calm;
  plain = plain;
  unmade = unmade;
  change = told_one g.entries t;
  told = λ x. told-told_one g.entries t x;
  fewer = λ x. omega arith;
  owed = λ x. refl;
  last = refl;
  entries = refl;
  clients = refl;
})

-- a refusal adds no request to the journal
pub refused_asks_none : (position : Option ℕ) (es : List Entry) (q : Request) (name : Option Ask) (r : Refusal)
    → requests_in (es ++ entries_of position q name (refused r)) ≡ requests_in es
refused_asks_none position es q name r = flat_map-append (λ (e : Entry). e.requests) es (entries_of position q name (refused r)) ∙ (ap (λ z. requests_in es ++ z) (by (is_shared q.act && is_some name)) ∙ append-nil (requests_in es))
  where
    by : (b : Bool) → requests_in (cond b (record { requests = []; names = answering name (refused r); position = position } ∷ []) []) ≡ []
    by true = refl
    by false = refl

-- what is accepted adds its request, and nothing else does
pub requests_in-entries_of : (position : Option ℕ) (q : Request) (name : Option Ask) (r : Reply) → is_shared q.act ≡ true → requests_in (entries_of position q name r) ≡ cond (is_accepted r) (q ∷ []) []
requests_in-entries_of position q name r h =
    ap (λ b. requests_in (cond (b && (is_accepted r || is_some name)) (record { requests = cond (is_accepted r) (q ∷ []) []; names = answering name r; position = position } ∷ []) [])) h
    ∙ by (is_accepted r) (is_some name)
  where
    by : (a n : Bool) → requests_in (cond (true && (a || n)) (record { requests = cond a (q ∷ []) []; names = answering name r; position = position } ∷ []) []) ≡ cond a (q ∷ []) []
    by true n = refl
    by false true = refl
    by false false = refl

pub is_news-reply_told : (g : Gate) (id : Option Data) (name : Option Ask) (r : Reply) → is_news (reply_told g id name r) ≡ false
is_news-reply_told g id None r = refl
is_news-reply_told g id (Some a) r = refl

pub is_word-reply_told : (g : Gate) (id : Option Data) (name : Option Ask) (r : Reply) → is_word (reply_told g id name r) ≡ false
is_word-reply_told g id None r = refl
is_word-reply_told g id (Some a) r = refl

pub is_made-reply_told : (g : Gate) (id : Option Data) (name : Option Ask) (r : Reply) → is_made (reply_told g id name r) ≡ false
is_made-reply_told g id None r = refl
is_made-reply_told g id (Some a) r = refl

refusing_done : (g : Gate) (m : ℕ) (c : Client) (id : Option Data) (q : Request) (name : Option Ask) (r : Refusal) → IsDone g m c (replies_to g m id q name (refused r))
refusing_done g m c id q name r =
    let h = entered g (entries_of (next_position g) q name (refused r)) in let t = reply_told h id name (refused r) in
    answers (record {
      text = t;
      calm = is_news-reply_told h id name (refused r);
      plain = is_word-reply_told h id name (refused r);
      unmade = is_made-reply_told h id name (refused r);
      change = told_one h.entries t;
      told = λ x. told-told_one h.entries t x;
      fewer = λ x. omega arith;
      owed = λ x. refl;
      last = refl;
      entries = refused_asks_none (next_position g) g.entries q name r;
      clients = refl;
    })

pub le-length_filter : (p : Sub → Bool) (xs : List Sub) → length (filter p xs) ≤ length xs
le-length_filter p [] = omega arith
le-length_filter p (x ∷ xs) = by (p x) (le-length_filter p xs)
  where
    by : (b : Bool) → length (filter p xs) ≤ length xs → length (cond b (x ∷ filter p xs) (filter p xs)) ≤ suc (length xs)
    by true h = omega (arith, h)
    by false h = omega (arith, h)

pub le-nat_lt : (n most : ℕ) → nat_lt n most ≡ true → n + 1 ≤ most
le-nat_lt n most h = let l = ltb-true n most h in omega (arith, l)

many_moved : (t k : ℕ) (xs : List Sub) → length (map (moved_sub t k) xs) ≡ length xs
many_moved t k [] = refl
many_moved t k (x ∷ xs) = ap suc (many_moved t k xs)

-- where the machine refuses the subscribe, its client is told so alone
refused_clients : (g : Gate) (m : ℕ) (id : Option Data) (n : ℕ) (rel : Name) (r : Refusal) → refusal g.machine n (subscribe rel) ≡ Some r
    → (ran (tells g m (replied id (refused r))) (in_session n (subscribe rel))).clients ≡ at_client m (told_one g.entries (replied id (refused r))) g.clients
refused_clients g m id n rel r e =
    let k = in_session n (subscribe rel) in
    ap (λ (x : Gate). x.clients) (ran-one_line (tells g m (replied id (refused r))) k n (refused r) (ap (λ o. (outcome g.machine k o).lines) e)
    (λ f role. refl))

module _ (sounds : Sounds) (g : Gate) (m : ℕ) (c : Client) where
  unmoved : (h : Gate) → IsMoved m h h
  unmoved h = record { change = λ c. c; told = λ x. refl; given = λ x. refl; owns = λ own x. refl; many = λ x. refl; owed = λ x. refl; last = refl; entries = refl; clients = sym (at_same_all m h.clients) }

  joined_moves : (h : Gate) (t k : Option Feed) → IsSoundState h.machine → IsMoved m h (joined h m t k)
  joined_moves h (Some t) (Some k) b = by (is_reading t.role t.rel k && not (t.number == k.number))
    where
      by : (d : Bool) → IsMoved m h (cond d (shut (record h { clients = at_client m (moved t.number k.number) h.clients }) t) h)
      by true = record {
        change = moved t.number k.number;
        told = λ x. refl;
        given = λ x. refl;
        owns = λ own x. list_any-moved_sub t.number k.number own x.subs;
        many = λ x. many_moved t.number k.number x.subs;
        owed = λ x. refl;
        last = last-shut (record h { clients = at_client m (moved t.number k.number) h.clients }) t;
        entries = refl;
        clients = clients-shut (record h { clients = at_client m (moved t.number k.number) h.clients }) t b;
      }
      by false = unmoved h
  joined_moves h (Some t) None b = unmoved h
  joined_moves h None k b = unmoved h

  joined_by_moves : (h : Gate) (k : ℕ) (r : Reply) → IsSoundState h.machine → IsMoved m h (joined_by h m k r)
  joined_by_moves h k (subscribed t) b = joined_moves h (feed_of h.feeds t) (feed_of h.feeds k) b
  joined_by_moves h k done b = unmoved h
  joined_by_moves h k (refused r) b = unmoved h

  -- a subscribe in a gateway that has the same clients and feeds; `behind` may join feeds
  subscribing : (i : Gate) (id : Option Data) (n : ℕ) (role rel : Name) (behind : Gate → Reply → Gate)
      → ((h : Gate) (r : Reply) → IsSoundState h.machine → IsMoved m h (behind h r)) → ((h : Gate) (r : Refusal) → behind h (refused r) ≡ h)
      → i.clients ≡ g.clients → i.feeds ≡ g.feeds → i.machine.frame.last ≡ g.machine.frame.last → i.entries ≡ g.entries → IsSoundState i.machine → nat_lt (length c.subs) most_subs ≡ true
      → IsDone g m c (behind (subscribes i m id n role rel) (reply_to i (in_session n (subscribe rel))))
  subscribing i id n role rel behind moves stays clients feeds last entries b room = by (refusal i.machine n (subscribe rel)) refl
    where
      by : (o : Option Refusal) → refusal i.machine n (subscribe rel) ≡ o → IsDone g m c (behind (subscribes i m id n role rel) (reply_to i (in_session n (subscribe rel))))
      by None e =
          let r = reply_in-None i.machine n rel (refusal i.machine n (subscribe rel)) e in
          let h = ran (feed_begun i m id n role rel (subscribed (i.machine.frame.last + 1))) (in_session n (subscribe rel)) in
          subst (λ x. IsDone g m c (behind (ran (feed_begun i m id n role rel x) (in_session n (subscribe rel))) x)) (sym r)
          (opens (record {
            room = room;
            id = id;
            session = n;
            role = role;
            rel = rel;
            first = i;
            clients = clients;
            feeds = feeds;
            last = last;
            entries = entries;
            state = b;
            accepted = e;
            behind = moves h (subscribed (i.machine.frame.last + 1)) (sounds.sound i.machine (in_session n (subscribe rel)) b);
          }))
      by (Some x) e =
          let r = reply_in-Some i.machine n rel (refusal i.machine n (subscribe rel)) x e in
          let t = replied id (refused x) in
          subst (λ y. IsDone g m c (behind (ran (feed_begun i m id n role rel y) (in_session n (subscribe rel))) y)) (sym r)
          (subst (IsDone g m c) (sym (stays (ran (tells i m t) (in_session n (subscribe rel))) x))
          (answers (record {
            text = t;
            calm = refl;
            plain = refl;
            unmade = refl;
            change = told_one i.entries t;
            told = λ x. told-told_one i.entries t x;
            fewer = λ x. omega arith;
            owed = λ x. refl;
            last = ap (λ o. (outcome i.machine (in_session n (subscribe rel)) o).state.frame.last) e ∙ last;
            entries = ap requests_in entries;
            clients = refused_clients i m id n rel x e ∙ ap (at_client m (told_one i.entries t)) clients;
          })))

  last_begun : (s : State) (n : ℕ) (role : Name) (o : Option Refusal) → (outcome s (in_session n (begin role)) o).state.frame.last ≡ s.frame.last
  last_begun s n role (Some r) = refl
  last_begun s n role None = refl

  reads_in : (i : Gate) (id : Option Data) (n : ℕ) (role rel : Name) → i.clients ≡ g.clients → i.feeds ≡ g.feeds → i.machine.frame.last ≡ g.machine.frame.last → i.entries ≡ g.entries → IsSoundState i.machine → nat_lt (length c.subs) most_subs ≡ true
      → IsDone g m c (subscribes i m id n role rel)
  reads_in i id n role rel clients feeds last entries b room = subscribing i id n role rel (λ h r. h) (λ h r d. unmoved h) (λ h r. refl) clients feeds last entries b room

  first_done : (id : Option Data) (role rel : Name) → IsSoundState g.machine → nat_lt (length c.subs) most_subs ≡ true → IsDone g m c (reads_first g m id role rel)
  first_done id role rel b room = by (room_for g.seats g.feeds role) (begun_for g role)
    where
      by : (o p : Option ℕ) → IsDone g m c (if_some o (if_some p (tells g m (replied id (refused too_many))) (λ n. subscribes (seated g n role) m id n role rel)) (λ n. subscribes g m id n role rel))
      by (Some n) p = reads_in g id n role rel refl refl refl refl b room
      by None None = telling_done g m c (replied id (refused too_many)) refl refl refl
      by None (Some n) =
          let e = seated-IsSoundState g n role b in
          reads_in (seated g n role) id n role rel (ap (λ (x : Gate). x.clients) e) (ap (λ (x : Gate). x.feeds) e)
          (last_begun g.machine n role (refusal g.machine n (begin role))) refl (sounds.sound g.machine (in_session n (begin role)) b) room

  reads_done : (id : Option Data) (rel : Name) → IsSoundState g.machine → IsDone g m c (reads g m c id rel)
  reads_done id rel b = by (nat_lt (length c.subs) most_subs) refl (feed_for g.feeds c.role rel)
    where
      by : (d : Bool) → nat_lt (length c.subs) most_subs ≡ d → (o : Option Feed) → IsDone g m c (cond d (if_some o (reads_first g m id c.role rel) (joins g m id)) (tells g m (replied id (refused too_many))))
      by true e None = first_done id c.role rel b e
      by true e (Some f) = subscribing g id f.session f.role f.rel (λ h r. joined_by h m f.number r) (λ h r d. joined_by_moves h f.number r d) (λ h r. refl) refl refl refl refl b e
      by false e o = telling_done g m c (replied id (refused too_many)) refl refl refl

  closes_done : (id : Option Data) (own : ℕ) → IsSoundState g.machine → IsDone g m c (closes g m c id own)
  closes_done id own b = by (followed_by c.subs own)
    where
      h : Gate
      h = record g { clients = at_client m (closing own) g.clients }

      by : (o : Option ℕ) → IsDone g m c (if_some o (tells g m (replied id (refused unknown_subscription))) (λ k. swept (tells (record g { clients = at_client m (closing own) g.clients }) m (replied id done)) k))
      by None = telling_done g m c (replied id (refused unknown_subscription)) refl refl refl
      by (Some k) = answers (record {
        text = replied id done;
        calm = refl;
        plain = refl;
        unmade = refl;
        change = λ x. told_one g.entries (replied id done) (closing own x);
        told = λ x. told-told_one g.entries (replied id done) (closing own x);
        fewer = λ x. le-length_filter (λ (s : Sub). not (own == s.own)) x.subs;
        owed = λ x. refl;
        last = last-swept (tells h m (replied id done)) k;
        entries = ap requests_in (swept_entries (tells h m (replied id done)) k);
        clients = clients-swept (tells h m (replied id done)) k b ∙ at_twice m (told_one g.entries (replied id done)) (closing own) g.clients;
      })

  shares_done : (id : Option Data) (q : Request) (claim : Option Claim) → is_shared q.act ≡ true → IsSaid q.act → IsDone g m c (shares g m c id q claim)
  shares_done id q claim h said = shares_so (IsDone g m c) g m id q (record {
    tells = λ t a. aside_done t a;
    does = λ name n e. asks id q name n h said refl;
    refuses = λ name r. refusing_done g m c id q name r;
  }) c claim
    where
      aside_done : (t : Told) → IsAside t → IsDone g m c (tells g m t)
      aside_done _ (refers i n) = telling_done g m c (denied i n) refl refl refl
      aside_done _ (leaves i n) = telling_done g m c (undecided i n) refl refl refl
      aside_done _ (repeats i at answer) = telling_done g m c (answered i true at answer) refl refl refl

  acts_done : (id : Option Data) (text : List ℕ) (act : Act) → IsSoundState g.machine → IsSaid act → IsDone g m c (acts g m c id text act)
  acts_done id text (begin role) b said = telling_done g m c (fault 2) refl refl refl
  acts_done id text finish b said = telling_done g m c (fault 2) refl refl refl
  acts_done id text (subscribe rel) b said = reads_done id rel b
  acts_done id text (unsubscribe own) b said = closes_done id own b
  acts_done id text act b said = shares_done id (request_of c text act) (claim_said text) refl said

  pub all_done : (text : List ℕ) (s : Message) → IsSoundState g.machine → said_by text ≡ s → IsDone g m c (done_for g m c text s)
  all_done text no_json b e = telling_done g m c (fault 1) refl refl refl
  all_done text too_long b e = telling_done g m c (fault 22) refl refl refl
  all_done text no_object b e = telling_done g m c (fault 2) refl refl refl
  all_done text (no_request id why) b e = telling_done g m c (unasked id why) refl refl refl
  all_done text (request id act) b e =
      cond-either (IsDone g m c) (may_have (claim_said text) act) (acts g m c id text act) (tells g m (unasked id (unknown (codes "once")))) (acts_done id text act b (text, id, e))
      (telling_done g m c (unasked id (unknown (codes "once"))) refl refl refl)
