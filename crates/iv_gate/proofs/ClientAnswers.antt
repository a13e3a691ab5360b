-- Each client is welcomed and answered, and what it closes or is told to end is over.
use Rattle.std.proofs.Common.{◌≡◌, ℕ, zero, suc, ◌+◌, ◌⊎◌, inl, inr, Bool, true, false, cond, ◌||◌, List, [], ◌∷◌, ◌++◌, length, drop, Option, Some, None, option_map, refl, ap, ◌∙◌, sym, subst, append-nil, arith}
use Rattle.std.specs.Prelude.{◌==◌, ◌&&◌, Contains, filter, find, nat_lt, slice_get, codes}
use Rattle.std.specs.List.{list_any}
use Rattle.std.proofs.lemmas.Bool.{false≢true, eqb-true}
use Rattle.std.proofs.lemmas.List.{length-append}
use Rattle.std.proofs.lemmas.List.Elements.{Contains-append_cases, filter-append}
use Rattle.serde_json.specs.Data.{Data}
use Rattle.iv_rows.specs.Columns.{Column}
use Rattle.iv_rows.specs.Options.{if_some}
use Rattle.iv_access.specs.Rights.{Name}
use Rattle.iv_machine.specs.Act.{Act, begin, finish, subscribe, unsubscribe, Reply, done, subscribed, refused, too_many, unknown_subscription}
use Rattle.iv_machine.specs.State.{State}
use Rattle.iv_message.specs.Message.{Message, no_json, too_long, no_object, no_request, request, unknown}
use Rattle.iv_message.specs.Told.{Told, welcome, replied, opened, settled, placed, unasked}
use Rattle.iv_clients.specs.Bounds.{most_subs}
use Rattle.iv_clients.specs.Clients.{Client, Sub, answered, at_client, client_at, closing, followed_by, fresh, may_say, saying, told, told_one}
use Rattle.iv_clients.specs.Feeds.{Feed, feed_for, room_for}
use Rattle.iv_records.specs.Journal.{Entry, said_by, shape_for, Request, claim_said}
use Rattle.iv_clients.proofs.Slots.{client_at-at_client, same-Some, not_None-Some}
use Rattle.iv_gate.specs.Events.{Event, presented, message, gone, known, ticked, synced, handed, failed, happens, next, arrived, forgave, led}
use Rattle.iv_gate.specs.Gate.{Gate, begun_for, closes, done_for, hears, seated, settles, swept, tells, asked_by, at_text, decided_elsewhere, entered, entries_of, may_have, names_of, reply_told, next_position, is_elsewhere}
use Rattle.iv_gate.specs.Replies.{IsAnswered, IsClient, heard_by, is_opened, is_reply, reading_told, replies, told_by}
use Rattle.iv_gate.specs.Seen.{IsClosed, has_ended, is_end_of}
use Rattle.iv_gate.proofs.GrownTexts.{drop-append_front}
use Rattle.iv_gate.proofs.ReplyPlaces.{list_any-append_front, list_any-append_back, slice_get-append_length, slice_get-append, filter-no_replies, not_nothing-filter, replies-append, replies-none}
use Rattle.iv_gate.proofs.NoReplies.{Hears, ends_for, Hears-happens, Hears-itself, is_own}
use Rattle.iv_gate.proofs.OwnReplies.{Answer, Behind, IsClosing, act_reply, asked, begun_reply, behind_settles, behind_swept, is_own-filter, first_reply, Answers-hears, read_reply, said_reply, carried_reply, decided_reply, done_reply, shared_reply, verdict_reply}
use Rattle.iv_gate.proofs.EventMarks.{next-alive as is_alive, is_gone, next-dead, AreTouched-next}
use Rattle.iv_gate.proofs.ShapeTexts.{all_made, filter-all_false, told-fresh, cond-either}
use Rattle.iv_once.specs.Names.{Ask, Verdict, verdict, carry, again, another, late, foreign, ahead, over}
use Rattle.iv_records.specs.Names.{Claim}
use Rattle.iv_clients.specs.Tokens.{Token}
use Rattle.iv_gate.proofs.StepRelations.{request_of}

-- ---- what an event tells

pub told_by-told_more : (c d : Client) (more : List Told) → told d ≡ told c ++ more → told_by c d ≡ more
told_by-told_more c d more e = ap (drop (length (told c))) e ∙ drop-append_front (told c) more

-- the event is the message
pub record IsOwn (m : ℕ) (c : Client) (e : Event) (text : List ℕ) : Type 0 where
  pub event : e ≡ message m text
  pub says : may_say c ≡ true

pub IsOwn-heard_by : (m : ℕ) (c : Client) (e : Event) (text : List ℕ) → heard_by m c e ≡ Some text → IsOwn m c e text
IsOwn-heard_by m c (message n u) text h = by (n == m) (may_say c) refl refl h
  where
    by : (a b : Bool) → (n == m) ≡ a → may_say c ≡ b → cond (a && b) (Some u) None ≡ Some text → IsOwn m c (message n u) text
    by true true e f g = record { event = (λ i. message (eqb-true n m e i) (same-Some u text g i)); says = f }
    by true false e f g = absurd (not_None-Some text (sym g))
    by false b e f g = absurd (not_None-Some text (sym g))
IsOwn-heard_by m c (presented n token) text h = absurd (not_None-Some text (sym h))
IsOwn-heard_by m c (gone n) text h = absurd (not_None-Some text (sym h))
IsOwn-heard_by m c (known tokens) text h = absurd (not_None-Some text (sym h))
IsOwn-heard_by m c ticked text h = absurd (not_None-Some text (sym h))
IsOwn-heard_by m c synced text h = absurd (not_None-Some text (sym h))
IsOwn-heard_by m c (handed n) text h = absurd (not_None-Some text (sym h))
IsOwn-heard_by m c (arrived st) text h = absurd (not_None-Some text (sym h))
IsOwn-heard_by m c led text h = absurd (not_None-Some text (sym h))
IsOwn-heard_by m c forgave text h = absurd (not_None-Some text (sym h))
IsOwn-heard_by m c failed text h = absurd (not_None-Some text (sym h))

abbrev pub OwnAnswer : Gate → ℕ → Client → List ℕ → Client → Type 0
OwnAnswer g m c text d = Answer (asked g m text) (said_by text) (said_reply (asked g m text) c text (said_by text)) (saying text c) d

pub next-IsOwn : (g : Gate) (e : Event) (m : ℕ) (c : Client) (text : List ℕ) → g.dead ≡ false → client_at g.clients m ≡ Some c → IsOwn m c e text → next g e ≡ hears g m c text
next-IsOwn g e m c text live h o =
    is_alive g e live ∙ (ap (happens g) o.event
    ∙ (ap (λ x. if_some x g (λ b. cond (may_say b) (hears g m b text) g)) h ∙ ap (λ t. cond t (hears g m c text) g) o.says))

pub OwnAnswer-IsOwn : (g : Gate) (e : Event) (m : ℕ) (c d : Client) (text : List ℕ) → g.dead ≡ false → client_at g.clients m ≡ Some c → client_at (next g e).clients m ≡ Some d → IsOwn m c e text
    → OwnAnswer g m c text d
OwnAnswer-IsOwn g e m c d text live h k o =
    let p = Answers-hears g m c text h in
    subst (OwnAnswer g m c text) (same-Some p.now d
    (sym p.there ∙ (ap (λ (x : Gate). client_at x.clients m) (sym (next-IsOwn g e m c text live h o)) ∙ k))) p.so

-- by what is no message of its own that is heard it is told no reply
pub Hears-heard_by : (g : Gate) (e : Event) (m : ℕ) (c d : Client) → g.dead ≡ false → client_at g.clients m ≡ Some c → client_at (next g e).clients m ≡ Some d → d.dropped ≡ false → heard_by m c e ≡ None → Hears c d
Hears-heard_by g e m c d live h k s u = Hears-happens g e m c d h (ap (λ (x : Gate). client_at x.clients m) (sym (is_alive g e live)) ∙ k) s u

pub replies-heard_by : (g : Gate) (e : Event) (m : ℕ) (c d : Client) → g.dead ≡ false → IsClient g m c → IsClient (next g e) m d → heard_by m c e ≡ None → replies (told_by c d) ≡ []
replies-heard_by g e m c d live a b u =
    let x = Hears-heard_by g e m c d live a.there b.there b.stays u in ap replies (told_by-told_more c d x.more x.text) ∙ x.quiet

pub told_by-OwnAnswer : (g : Gate) (m : ℕ) (c : Client) (text : List ℕ) (d : Client) (x : OwnAnswer g m c text d) → told_by c d ≡ x.before ++ said_reply (asked g m text) c text (said_by text) ∷ x.others
told_by-OwnAnswer g m c text d x = told_by-told_more c d (x.before ++ said_reply (asked g m text) c text (said_by text) ∷ x.others) x.text

-- ---- what is closed is followed no more

pub followed_by-not_is_own : (xs : List Sub) (own : ℕ) → is_own own xs ≡ false → followed_by xs own ≡ None
followed_by-not_is_own [] own h = refl
followed_by-not_is_own (x ∷ xs) own h = by (own == x.own) h (followed_by-not_is_own xs own)
  where
    by : (b : Bool) → (b || is_own own xs) ≡ false → (is_own own xs ≡ false → followed_by xs own ≡ None) → option_map (λ (s : Sub). s.feed) (cond b (Some x) (find (λ (s : Sub). own == s.own) xs)) ≡ None
    by true k more = absurd (false≢true (sym k))
    by false k more = more k

pub is_own-not_followed_by : (xs : List Sub) (own : ℕ) → followed_by xs own ≡ None → is_own own xs ≡ false
is_own-not_followed_by [] own h = refl
is_own-not_followed_by (x ∷ xs) own h = by (own == x.own) h (is_own-not_followed_by xs own)
  where
    by : (b : Bool) → option_map (λ (s : Sub). s.feed) (cond b (Some x) (find (λ (s : Sub). own == s.own) xs)) ≡ None → (followed_by xs own ≡ None → is_own own xs ≡ false) → (b || is_own own xs) ≡ false
    by true k more = absurd (not_None-Some x.feed k)
    by false k more = more k

closes_at : (g : Gate) (m : ℕ) (c : Client) (text : List ℕ) (id : Option Data) (own : ℕ) (d : Client) → client_at g.clients m ≡ Some (saying text c) → client_at (settles (closes g m c id own)).clients m ≡ Some d
    → is_own own d.subs ≡ false
closes_at g m c text id own d h k = by (followed_by c.subs own) refl k
  where
    h2 : Gate
    h2 = record g { clients = at_client m (closing own) g.clients }

    left : (old : Gate) (x : Client) → client_at old.clients m ≡ Some x → is_own own x.subs ≡ false → (new : Gate) → Behind m old.clients new.clients → client_at (settles new).clients m ≡ Some d → is_own own d.subs ≡ false
    left old x t n new f e =
        let p = f x t in let q = behind_settles m new p.now p.there in
        subst (λ (y : Client). is_own own y.subs ≡ false) (same-Some q.now d (sym q.there ∙ e)) (q.so.none own (p.so.none own n))

    same : (old : Gate) → Behind m old.clients old.clients
    same old x t = record { now = x; there = t; so = Hears-itself x }

    by : (o : Option ℕ) → followed_by c.subs own ≡ o
        → client_at (settles (if_some o (tells g m (replied id (refused unknown_subscription))) (λ i. swept (tells (record g { clients = at_client m (closing own) g.clients }) m (replied id done)) i))).clients m ≡ Some d → is_own own d.subs ≡ false
    by None f e =
        let t = replied id (refused unknown_subscription) in
        left (tells g m t) (told_one g.entries t (saying text c)) (client_at-at_client m (told_one g.entries t) g.clients ∙ ap (option_map (told_one g.entries t)) h) (is_own-not_followed_by c.subs own f) (tells g m t) (same (tells g m t)) e
    by (Some i) f e =
        let t = replied id done in let n = tells h2 m t in
        left n (told_one g.entries t (closing own (saying text c)))
        (client_at-at_client m (told_one g.entries t) h2.clients ∙ ap (option_map (told_one g.entries t)) (client_at-at_client m (closing own) g.clients ∙ ap (option_map (closing own)) h))
        (is_own-filter own c.subs) (swept n i) (behind_swept m n i) e

-- behind a message that closes a number it has it no more
closes_own : (g : Gate) (e : Event) (m : ℕ) (c d : Client) (text : List ℕ) (id : Option Data) (own : ℕ) → g.dead ≡ false → client_at g.clients m ≡ Some c → client_at (next g e).clients m ≡ Some d → IsOwn m c e text
    → said_by text ≡ request id (unsubscribe own) → may_have (claim_said text) (unsubscribe own) ≡ true → is_own own d.subs ≡ false
closes_own g e m c d text id own live a b u s w = marked (client_at (settles did).clients m) refl there
  where
    h : Gate
    h = asked g m text

    did : Gate
    did = done_for h m c text (said_by text)

    there : option_map (answered c) (client_at (settles did).clients m) ≡ Some d
    there =
        sym (client_at-at_client m (answered c) (settles did).clients) ∙ (ap (λ (x : Gate). client_at x.clients m) (sym (next-IsOwn g e m c text live a u)) ∙ b)

    marked : (o : Option Client) → client_at (settles did).clients m ≡ o → option_map (answered c) o ≡ Some d → is_own own d.subs ≡ false
    marked None f k = absurd (not_None-Some d (sym k))
    marked (Some x) f k = subst (λ (y : Client). is_own own y.subs ≡ false) (same-Some (answered c x) d k)
        (closes_at h m c text id own x (client_at-at_client m (saying text) g.clients ∙ ap (option_map (saying text)) a)
        (sym (ap (λ t. client_at (settles (cond t (closes h m c id own) (tells h m (unasked id (unknown (codes "once")))))).clients m) w) ∙ (ap (λ z. client_at (settles (done_for h m c text z)).clients m) (sym s) ∙ f)))

-- ---- an invariant of clients, by what happens to them

-- where it closes a number by the text, which has no name, it has it no more
abbrev pub Closes : List ℕ → Client → Type 0
Closes text d = (id : Option Data) (own : ℕ) → said_by text ≡ request id (unsubscribe own) → may_have (claim_said text) (unsubscribe own) ≡ true → is_own own d.subs ≡ false

-- how a client comes to be what it is behind an event
pub record Came (P : Client → Type 0) : Type 0 where
  pub new : (es : List Entry) (t : Token) (at : List ℕ) → P (fresh es t at)
  pub hears : (c d : Client) → Hears c d → P c → P d
  pub answers : (g : Gate) (m : ℕ) (c : Client) (text : List ℕ) (d : Client) → OwnAnswer g m c text d → Closes text d → P c → P d

pub dropped-IsClient : (g : Gate) (e : Event) (m : ℕ) (c d : Client) → g.dead ≡ false → client_at g.clients m ≡ Some c → IsClient (next g e) m d
    → c.dropped ≡ false
dropped-IsClient g e m c d live h b = by (is_gone m e) refl
  where
    or_no : (x y : Bool) → (x || y) ≡ false → x ≡ false
    or_no true y k = k
    or_no false y k = refl

    by : (t : Bool) → is_gone m e ≡ t → c.dropped ≡ false
    by true t = absurd (not_None-Some d (sym b.there ∙ (AreTouched-next g e live).leaves m t))
    by false t =
        let x = (AreTouched-next g e live).stays m c h t in
        or_no c.dropped _ (sym x.dropped ∙ (ap (λ (y : Client). y.dropped) (same-Some x.now d (sym x.there ∙ b.there)) ∙ b.stays))

pub Came-next : (P : Client → Type 0) → Came P → (g : Gate) (e : Event) → ((m : ℕ) (c : Client) → IsClient g m c → P c) → (m : ℕ) (d : Client) → IsClient (next g e) m d → P d
Came-next P k g e before m d b = by g.dead refl
  where
    heard : g.dead ≡ false → (c : Client) → client_at g.clients m ≡ Some c → c.dropped ≡ false → (o : Option (List ℕ)) → heard_by m c e ≡ o → P d
    heard live c h s None u = k.hears c d (Hears-heard_by g e m c d live h b.there b.stays u) (before m c (record { there = h; stays = s }))
    heard live c h s (Some text) u =
        let o = IsOwn-heard_by m c e text u in
        k.answers g m c text d (OwnAnswer-IsOwn g e m c d text live h b.there o) (λ id own. closes_own g e m c d text id own live h b.there o) (before m c (record { there = h; stays = s }))

    there : g.dead ≡ false → (o : Option Client) → client_at g.clients m ≡ o → P d
    there live None h =
        let x = (AreTouched-next g e live).comes m d h b.there in subst P (sym x.is) (k.new (next g e).entries x.token (at_text (next g e) x.token))
    there live (Some c) h = heard live c h (dropped-IsClient g e m c d live h b) (heard_by m c e) refl

    by : (t : Bool) → g.dead ≡ t → P d
    by true t = before m d (record { there = ap (λ (x : Gate). client_at x.clients m) (sym (next-dead g e t)) ∙ b.there; stays = b.stays })
    by false t = there t (client_at g.clients m) refl

-- ---- answered

reading_is : (s : State) (c : Client) (id : Option Data) (rel : Name) (r : Reply) → is_reply (reading_told s c id rel r) ≡ true
reading_is s c id rel (subscribed k) = refl
reading_is s c id rel done = refl
reading_is s c id rel (refused r) = refl

first_is : (g : Gate) (c : Client) (id : Option Data) (role rel : Name) → is_reply (first_reply g c id role rel) ≡ true
first_is g c id role rel = by (room_for g.seats g.feeds role) (begun_for g role)
  where
    by : (o p : Option ℕ) → is_reply (if_some o (if_some p (replied id (refused too_many)) (λ n. begun_reply (seated g n role) c id n rel)) (λ n. begun_reply g c id n rel)) ≡ true
    by None None = refl
    by None (Some n) = reading_is (seated g n role).machine c id rel _
    by (Some n) p = reading_is g.machine c id rel _

read_is : (g : Gate) (c : Client) (id : Option Data) (rel : Name) → is_reply (read_reply g c id rel) ≡ true
read_is g c id rel = by (nat_lt (length c.subs) most_subs) (feed_for g.feeds c.role rel)
  where
    by : (b : Bool) (o : Option Feed) → is_reply (cond b (if_some o (first_reply g c id c.role rel) (λ f. begun_reply g c id f.session f.rel)) (replied id (refused too_many))) ≡ true
    by true None = first_is g c id c.role rel
    by true (Some f) = reading_is g.machine c id f.rel _
    by false o = refl

decided_is : (g : Gate) (id : Option Data) (q : Request) (name : Option Ask) → is_reply (decided_reply g id q name) ≡ true
decided_is g id q name = by (is_elsewhere g name)
  where
    elsewhere_is : (o : Option Ask) → is_reply (decided_elsewhere id o) ≡ true
    elsewhere_is None = refl
    elsewhere_is (Some a) = refl

    told_is : (h : Gate) (o : Option Ask) (r : Reply) → is_reply (reply_told h id o r) ≡ true
    told_is h None r = refl
    told_is h (Some a) r = refl

    by : (l : Bool) → is_reply (cond l (decided_elsewhere id name) (done_reply g id q name (carried_reply g q))) ≡ true
    by true = elsewhere_is name
    by false = told_is (entered g (entries_of (next_position g) q name (carried_reply g q))) name (carried_reply g q)

verdict_is : (g : Gate) (id : Option Data) (q : Request) (a : Ask) (v : Verdict) → is_reply (verdict_reply g id q a v) ≡ true
verdict_is g id q a carry = decided_is g id q (Some a)
verdict_is g id q a (again answer) = refl
verdict_is g id q a another = refl
verdict_is g id q a late = refl
verdict_is g id q a foreign = refl
verdict_is g id q a ahead = refl
verdict_is g id q a over = refl

shared_is : (g : Gate) (c : Client) (id : Option Data) (q : Request) (claim : Option Claim) → is_reply (shared_reply g c id q claim) ≡ true
shared_is g c id q None = decided_is g id q None
shared_is g c id q (Some k) = let a = asked_by c q.line k in verdict_is g id q a (verdict (names_of g) a)

act_is : (g : Gate) (c : Client) (id : Option Data) (text : List ℕ) (act : Act) → is_reply (act_reply g c id text act) ≡ true
act_is g c id text (begin role) = refl
act_is g c id text finish = refl
act_is g c id text (subscribe rel) = read_is g c id rel
act_is g c id text (unsubscribe own) = refl
act_is g c id text act = shared_is g c id (request_of c text act) (claim_said text)

-- what a message is replied is a reply
pub is_reply-said_reply : (g : Gate) (c : Client) (text : List ℕ) (s : Message) → is_reply (said_reply g c text s) ≡ true
is_reply-said_reply g c text no_json = refl
is_reply-said_reply g c text too_long = refl
is_reply-said_reply g c text no_object = refl
is_reply-said_reply g c text (no_request id why) = refl
is_reply-said_reply g c text (request id act) =
    cond-either (λ t. is_reply t ≡ true) (may_have (claim_said text) act) (act_reply g c id text act) (unasked id (unknown (codes "once"))) (act_is g c id text act) refl

pub replies-one_reply : (ts us vs : List Told) (t : Told) → replies us ≡ [] → replies vs ≡ [] → is_reply t ≡ true → replies (ts ++ (us ++ t ∷ vs)) ≡ replies ts ++ t ∷ []
replies-one_reply ts us vs t a b h =
    replies-append ts (us ++ t ∷ vs) ∙ ap (λ z. replies ts ++ z) (replies-append us (t ∷ vs) ∙ ((λ i. a i ++ cond (h i) (t ∷ replies vs) (replies vs)) ∙ ap (λ z. t ∷ z) b))

opened_of : (ts us vs : List Told) (t : Told) → replies us ≡ [] → replies vs ≡ [] → filter is_opened (ts ++ (us ++ t ∷ vs)) ≡ filter is_opened ts ++ filter is_opened (t ∷ [])
opened_of ts us vs t a b =
    filter-append is_opened ts (us ++ t ∷ vs)
    ∙ ap (λ z. filter is_opened ts ++ z) (filter-append is_opened us (t ∷ vs) ∙ ((λ i. filter-no_replies us a i ++ cond (is_opened t) (t ∷ filter-no_replies vs b i) (filter-no_replies vs b i))))

-- what a client that comes in is told after its welcome and its place
abbrev after_place : List Entry → Name → List Told
after_place es role = shape_for role es ++ settled ∷ []

-- it is no reply
greeting_quiet : (es : List Entry) (role : Name) → replies (after_place es role) ≡ []
greeting_quiet es role = replies-none (shape_for role es) (settled ∷ []) (filter-all_false is_reply (shape_for role es) (all_made (λ t. is_reply t ≡ false) (λ r line. refl) role es)) refl

greeting_opens : (es : List Entry) (t : Token) (at : List ℕ) → filter is_opened (told (fresh es t at)) ≡ []
greeting_opens es t at = ap (filter is_opened) (told-fresh es t at) ∙ filter-no_replies (after_place es t.role) (greeting_quiet es t.role)

pub IsAnswered-fresh : (es : List Entry) (t : Token) (at : List ℕ) → IsAnswered (fresh es t at)
IsAnswered-fresh es t at = record {
  welcome = (at, after_place es t.role, told-fresh es t at);
  each = ap (λ z. length (replies z)) (told-fresh es t at) ∙ ap (λ z. length (welcome t.role ∷ placed at ∷ z)) (greeting_quiet es t.role);
  given = ap length (sym (greeting_opens es t at));
}

pub IsAnswered-Hears : (c d : Client) → Hears c d → IsAnswered c → IsAnswered d
IsAnswered-Hears c d x a = record {
  welcome = (a.welcome.0, a.welcome.1 ++ x.more, x.text ∙ (ap (λ z. z ++ x.more) a.welcome.2 ∙ ap (λ r. welcome r ∷ placed a.welcome.0 ∷ (a.welcome.1 ++ x.more)) (sym x.role)));
  each = ap (λ z. length (replies z)) x.text
      ∙ (ap length (replies-append (told c) x.more ∙ (ap (λ z. replies (told c) ++ z) x.quiet ∙ append-nil (replies (told c)))) ∙ (a.each ∙ ap (λ z. 2 + length z) (sym x.messages)));
  given = x.given ∙ (a.given ∙ ap length (sym (ap (filter is_opened) x.text ∙ (filter-append is_opened (told c) x.more ∙ (ap (λ z. filter is_opened (told c) ++ z) (filter-no_replies x.more x.quiet) ∙ append-nil (filter is_opened (told c)))))));
}

pub IsAnswered-OwnAnswer : (g : Gate) (m : ℕ) (c : Client) (text : List ℕ) (d : Client) → OwnAnswer g m c text d → IsAnswered c → IsAnswered d
IsAnswered-OwnAnswer g m c text d x a = record {
  welcome = (a.welcome.0, a.welcome.1 ++ more, x.text ∙ (ap (λ z. z ++ more) a.welcome.2 ∙ ap (λ r. welcome r ∷ placed a.welcome.0 ∷ (a.welcome.1 ++ more)) (sym x.role)));
  each = each;
  given = given;
}
  where
    t : Told
    t = said_reply (asked g m text) c text (said_by text)

    more : List Told
    more = x.before ++ t ∷ x.others

    plus : (n k : ℕ) → n ≡ 2 + k → n + 1 ≡ 2 + (k + 1)
    plus n k e = omega (arith, e)

    each : length (replies (told d)) ≡ 2 + length d.messages
    each = ap (λ z. length (replies z)) x.text
        ∙ (ap length (replies-one_reply (told c) x.before x.others t x.started x.alone (is_reply-said_reply (asked g m text) c text (said_by text)))
        ∙ (length-append (replies (told c)) (t ∷ []) ∙ (plus (length (replies (told c))) (length c.messages) a.each ∙ ap (λ z. 2 + z) (sym (ap length x.messages ∙ length-append c.messages (text ∷ []))))))

    by : (b : Bool) → is_opened t ≡ b → cond b (c.given + 1) c.given ≡ length (filter is_opened (told c)) + length (cond b (t ∷ []) [])
    by true e = ap (λ z. z + 1) a.given
    by false e = plain c.given (length (filter is_opened (told c))) a.given
      where
        plain : (n k : ℕ) → n ≡ k → n ≡ k + 0
        plain n k e = omega (arith, e)

    given : d.given ≡ length (filter is_opened (told d))
    given = x.given ∙ (by (is_opened t) refl
        ∙ sym (ap (λ z. length (filter is_opened z)) x.text ∙ (ap length (opened_of (told c) x.before x.others t x.started x.alone) ∙ length-append (filter is_opened (told c)) (filter is_opened (t ∷ [])))))

pub Came-IsAnswered : Came IsAnswered
Came-IsAnswered = record { new = IsAnswered-fresh; hears = IsAnswered-Hears; answers = λ g m c text d x n. IsAnswered-OwnAnswer g m c text d x }

-- ---- over

-- a number that was given and follows nothing was told its end, or was closed
abbrev pub IsSettled : Client → Type 0
IsSettled c = IsAnswered c × ((id : Option Data) (own : ℕ) (columns : List Column) → Contains (told c) (opened id own columns) → is_own own c.subs ≡ false → (has_ended c own ≡ true) ⊎ IsClosed c own)

closed_more : (c d : Client) (own : ℕ) (ms : List (List ℕ)) (ts : List Told) → d.messages ≡ c.messages ++ ms → told d ≡ told c ++ ts → IsClosed c own → IsClosed d own
closed_more c d own ms ts m t (place, id, (text, there, asks, reply)) = (
  place,
  id,
  (
    text,
    ap (λ z. slice_get z place) m ∙ slice_get-append c.messages ms place text there,
    asks,
    ap (λ z. slice_get (replies z) (place + 2)) t ∙ (ap (λ z. slice_get z (place + 2)) (replies-append (told c) ts) ∙ slice_get-append (replies (told c)) (replies ts) (place + 2) (replied id done) reply),
  ),
)

ended_more : (c d : Client) (own : ℕ) (ts : List Told) → told d ≡ told c ++ ts → has_ended c own ≡ true → has_ended d own ≡ true
ended_more c d own ts t h = ap (list_any (is_end_of own)) t ∙ list_any-append_front (is_end_of own) (told c) ts h

ended_now : (c d : Client) (own : ℕ) (ts : List Told) → told d ≡ told c ++ ts → ends_for own ts ≡ true → has_ended d own ≡ true
ended_now c d own ts t h = ap (list_any (is_end_of own)) t ∙ list_any-append_back (is_end_of own) (told c) ts h

new_settled : (es : List Entry) (t : Token) (at : List ℕ) → IsSettled (fresh es t at)
new_settled es t at = (IsAnswered-fresh es t at, λ id own columns k h. absurd (not_nothing-filter is_opened (told (fresh es t at)) (opened id own columns) k refl (greeting_opens es t at)))

hears_settled : (c d : Client) → Hears c d → IsSettled c → IsSettled d
hears_settled c d x a = (IsAnswered-Hears c d x a.0, λ id own columns k h. by id own columns (Contains-append_cases (told c) x.more (opened id own columns) (subst (λ ts. Contains ts (opened id own columns)) x.text k)) h)
  where
    still : (own : ℕ) → (has_ended c own ≡ true) ⊎ IsClosed c own → (has_ended d own ≡ true) ⊎ IsClosed d own
    still own (inl h) = inl (ended_more c d own x.more x.text h)
    still own (inr h) = inr (closed_more c d own [] x.more (x.messages ∙ sym (append-nil c.messages)) x.text h)

    had : (id : Option Data) (own : ℕ) (columns : List Column) → Contains (told c) (opened id own columns) → is_own own d.subs ≡ false → (t : Bool) → is_own own c.subs ≡ t → (has_ended d own ≡ true) ⊎ IsClosed d own
    had id own columns k h true t = inl (ended_now c d own x.more x.text (x.lost own t h))
    had id own columns k h false t = still own (a.1 id own columns k t)

    by : (id : Option Data) (own : ℕ) (columns : List Column) → Contains (told c) (opened id own columns) ⊎ Contains x.more (opened id own columns) → is_own own d.subs ≡ false → (has_ended d own ≡ true) ⊎ IsClosed d own
    by id own columns (inl k) h = had id own columns k h (is_own own c.subs) refl
    by id own columns (inr k) h = absurd (not_nothing-filter is_reply x.more (opened id own columns) k refl x.quiet)

answers_settled : (g : Gate) (m : ℕ) (c : Client) (text : List ℕ) (d : Client) → OwnAnswer g m c text d → IsSettled c → IsSettled d
answers_settled g m c text d x a =
    (IsAnswered-OwnAnswer g m c text d x a.0, λ id own columns k h. by id own columns (Contains-append_cases (told c) more (opened id own columns) (subst (λ ts. Contains ts (opened id own columns)) x.text k)) h)
  where
    t : Told
    t = said_reply (asked g m text) c text (said_by text)

    more : List Told
    more = x.before ++ t ∷ x.others

    plus : (n : ℕ) → 2 + n ≡ n + 2
    plus n = omega arith

    -- the message closed it
    closed : (own : ℕ) → IsClosing own (said_by text) t → IsClosed d own
    closed own k = (
      length c.messages,
      k.id,
      (
        text,
        ap (λ z. slice_get z (length c.messages)) x.messages ∙ slice_get-append_length c.messages text [],
        k.asks,
        ap (λ z. slice_get (replies z) (length c.messages + 2)) x.text
            ∙ (ap (λ z. slice_get z (length c.messages + 2)) (replies-one_reply (told c) x.before x.others t x.started x.alone (is_reply-said_reply (asked g m text) c text (said_by text)))
            ∙ (ap (λ i. slice_get (replies (told c) ++ t ∷ []) i) (sym (a.0.each ∙ plus (length c.messages))) ∙ (slice_get-append_length (replies (told c)) t [] ∙ ap Some k.tells))),
      ),
    )

    lost : (own : ℕ) → (ends_for own more ≡ true) ⊎ IsClosing own (said_by text) t → (has_ended d own ≡ true) ⊎ IsClosed d own
    lost own (inl k) = inl (ended_now c d own more x.text k)
    lost own (inr k) = inr (closed own k)

    still : (own : ℕ) → (has_ended c own ≡ true) ⊎ IsClosed c own → (has_ended d own ≡ true) ⊎ IsClosed d own
    still own (inl h) = inl (ended_more c d own more x.text h)
    still own (inr h) = inr (closed_more c d own (text ∷ []) more x.messages x.text h)

    had : (id : Option Data) (own : ℕ) (columns : List Column) → Contains (told c) (opened id own columns) → is_own own d.subs ≡ false → (b : Bool) → is_own own c.subs ≡ b → (has_ended d own ≡ true) ⊎ IsClosed d own
    had id own columns k h true b = lost own (x.lost own (inl b) h)
    had id own columns k h false b = still own (a.1 id own columns k b)

    opens : (id : Option Data) (own : ℕ) (columns : List Column) → t ≡ opened id own columns → is_own own d.subs ≡ false → (has_ended d own ≡ true) ⊎ IsClosed d own
    opens id own columns e h = lost own (x.lost own (inr (ap is_opened e, x.number id own columns e)) h)

    the_one : (y : Told) → Contains (t ∷ []) y → t ≡ y
    the_one y (zero, k, e) = e
    the_one y (suc i, k, e) = absurd (let no : ⊥ = omega (arith, k) in no)

    now : (id : Option Data) (own : ℕ) (columns : List Column) → Contains (t ∷ []) (opened id own columns) ⊎ Contains x.others (opened id own columns) → is_own own d.subs ≡ false
        → (has_ended d own ≡ true) ⊎ IsClosed d own
    now id own columns (inl k) h = opens id own columns (the_one (opened id own columns) k) h
    now id own columns (inr k) h = absurd (not_nothing-filter is_reply x.others (opened id own columns) k refl x.alone)

    later : (id : Option Data) (own : ℕ) (columns : List Column) → Contains x.before (opened id own columns) ⊎ Contains (t ∷ x.others) (opened id own columns) → is_own own d.subs ≡ false
        → (has_ended d own ≡ true) ⊎ IsClosed d own
    later id own columns (inl k) h = absurd (not_nothing-filter is_reply x.before (opened id own columns) k refl x.started)
    later id own columns (inr k) h = now id own columns (Contains-append_cases (t ∷ []) x.others (opened id own columns) k) h

    by : (id : Option Data) (own : ℕ) (columns : List Column) → Contains (told c) (opened id own columns) ⊎ Contains more (opened id own columns) → is_own own d.subs ≡ false
        → (has_ended d own ≡ true) ⊎ IsClosed d own
    by id own columns (inl k) h = had id own columns k h (is_own own c.subs) refl
    by id own columns (inr k) h = later id own columns (Contains-append_cases x.before (t ∷ x.others) (opened id own columns) k) h

pub Came-IsSettled : Came IsSettled
Came-IsSettled = record { new = new_settled; hears = hears_settled; answers = λ g m c text d x n. answers_settled g m c text d x }
