-- Each event leaves its marks, and touches clients as it says.
use Rattle.std.proofs.Common.{◌≡◌, ℕ, zero, suc, Bool, true, false, cond, ◌||◌, not, List, [], ◌∷◌, ◌++◌, length, map, set, Option, Some, None, is_some, option_map, refl, ap, ◌∙◌, sym, append-nil}
use Rattle.std.specs.Prelude.{◌==◌, ◌&&◌, filter, option_and_then}
use Rattle.std.proofs.lemmas.Bool.{false≢true, eqb-true, eqb-false}
use Rattle.sha2.specs.Sha256.{sha256}
use Rattle.iv_rows.specs.Names.{is_name}
use Rattle.iv_rows.specs.Options.{if_some}
use Rattle.iv_clients.specs.Clients.{Client, Slots, at_all, at_client, beating, checked, client_at, dropping, fresh, handing, is_free, is_slow, may_say, opens, released, saying}
use Rattle.iv_clients.specs.Feeds.{is_of_role}
use Rattle.iv_records.specs.Journal.{Entry}
use Rattle.iv_machine.specs.Machine.{Outcome}
use Rattle.iv_steps.specs.Steps.{stepped}
use Rattle.iv_clients.specs.Tokens.{Token, token_of}
use Rattle.iv_clients.proofs.Slots.{client_at-at_all, client_at-at_other_client, client_at-at_client, is_free-client_at, same-Some, client_at-set_None, client_at-set_other, client_at-set_free, not_None-Some}
use Rattle.iv_gate.specs.Arriving.{Step, entry_of, fact_of, fault_of, was_taken, landed, takes}
use Rattle.iv_gate.specs.Events.{Event, presented, message, gone, known, ticked, synced, handed, arrived, forgave, failed, happens, next, led}
use Rattle.iv_gate.specs.Gate.{Gate, all_rested, all_swept, at_text, came, has_session, hears, said, settles, token_for, went, with_session}
use Rattle.iv_gate.specs.Replies.{added_by}
use Rattle.iv_gate.specs.Touched.{drops}
use Rattle.iv_gate.proofs.EventSigns.{Card, Mark, Marks, card, marking, marks, Sign, mark_of, marks_in, sign, sign-all_rested, sign-all_swept, IsHeardSign-hears, sign-landed, sign-settles, sign-with_session}
use Rattle.iv_gate.proofs.GrownTexts.{append-drop_front}

-- ---- what events leave

-- the marks behind an event of one that is not dead
abbrev pub marks_behind : Gate → Event → Marks
marks_behind g (known tokens) = record (marks g) { tokens = tokens }
marks_behind g synced = record (marks g) { kept = length g.entries }
marks_behind g (handed m) = record (marks g) { sent = g.sent ++ if_some (client_at g.clients m) [] (λ c. c.sendable) }
marks_behind g (arrived s) = cond (is_some (fault_of g s)) (record (marks g) { dead = true }) (marks g)
marks_behind g led = record (marks g) { leads = is_some g.head.log }
marks_behind g forgave = record (marks g) { forgiven = length g.entries }
marks_behind g failed = record (marks g) { dead = true }
marks_behind g e = marks g

-- the card behind an event: its own message that is heard, and what is handed to it
abbrev pub card_behind : ℕ → Client → Event → Card
card_behind m c (message n text) = cond (n == m && may_say c) (card (saying text c)) (card c)
card_behind m c (handed n) = cond (n == m) (card (handing c)) (card c)
card_behind m c e = card c

abbrev pub is_gone : ℕ → Event → Bool
is_gone m (gone n) = n == m
is_gone m e = false

-- a client stays with its card, but for its own leaving
pub record IsKept (g : Gate) (e : Event) (m : ℕ) (c : Client) : Type 0 where
  pub now : Client
  pub there : client_at (next g e).clients m ≡ Some now
  pub card : card now ≡ card_behind m c e
  pub dropped : now.dropped ≡ (c.dropped || drops c e)

-- a number that nobody had has a client who presented a token, which opens its role, and who is told its greeting alone
pub record IsNewcomer (g : Gate) (e : Event) (m : ℕ) (d : Client) : Type 0 where
  pub text : List ℕ
  pub token : Token
  pub event : e ≡ presented m text
  pub opened : token_of g.tokens (sha256 text) ≡ Some token
  pub is : d ≡ fresh (next g e).entries token (at_text (next g e) token)

pub record AreTouched (g : Gate) (e : Event) : Type 0 where
  pub stays : (m : ℕ) (c : Client) → client_at g.clients m ≡ Some c → is_gone m e ≡ false → IsKept g e m c
  pub leaves : (m : ℕ) → is_gone m e ≡ true → client_at (next g e).clients m ≡ None
  pub comes : (m : ℕ) (d : Client) → client_at g.clients m ≡ None → client_at (next g e).clients m ≡ Some d → IsNewcomer g e m d

-- ---- slots

mark_at : (slots : Slots) (j : ℕ) → client_at (marks_in slots) j ≡ option_map mark_of (client_at slots j)
mark_at [] j = refl
mark_at (s ∷ ss) zero = refl
mark_at (s ∷ ss) (suc j) = mark_at ss j

set_marks : (m : ℕ) (x : Option Client) (slots : Slots) → marks_in (set slots m x) ≡ set (marks_in slots) m (option_map mark_of x)
set_marks m x [] = refl
set_marks zero x (s ∷ ss) = refl
set_marks (suc m) x (s ∷ ss) = ap (λ z. option_map mark_of s ∷ z) (set_marks m x ss)

-- ---- one client

pub record Marked (slots : Slots) (j : ℕ) (k : Mark) : Type 0 where
  pub now : Client
  pub there : client_at slots j ≡ Some now
  pub mark : mark_of now ≡ k

marked_by : (o : Option Client) (slots : Slots) (j : ℕ) (k : Mark) → client_at slots j ≡ o → option_map mark_of o ≡ Some k → Marked slots j k
marked_by None slots j k h e = absurd (not_None-Some k (sym e))
marked_by (Some c) slots j k h e = record { now = c; there = h; mark = cc }

marked : (slots : Slots) (j : ℕ) (k : Mark) → client_at (marks_in slots) j ≡ Some k → Marked slots j k
marked slots j k h = marked_by (client_at slots j) slots j k refl (sym (mark_at slots j) ∙ h)

-- the card is the client's, and it is dropped
abbrev pub mark_behind : ℕ → Client → Event → Mark
mark_behind m c e = (marking (card_behind m c e) (c.dropped || drops c e))

kept_of : (g : Gate) (e : Event) (m : ℕ) (c : Client) → Marked (next g e).clients m (mark_behind m c e) → IsKept g e m c
kept_of g e m c x = record { now = x.now; there = x.there; card = ap (λ (k : Mark). k.card) x.mark; dropped = ap (λ (k : Mark). k.dropped) x.mark }

-- where marks are the same, and where another client's are changed
same_marked : (g h : Gate) (j : ℕ) (c : Client) (k : Mark) → client_at g.clients j ≡ Some c → marks_in h.clients ≡ marks_in g.clients → mark_of c ≡ k → Marked h.clients j k
same_marked g h j c k t e s = marked h.clients j k (ap (λ z. client_at z j) e ∙ (mark_at g.clients j ∙ (ap (option_map mark_of) t ∙ ap Some s)))

or_false : (b : Bool) → (b || false) ≡ b
or_false true = refl
or_false false = refl

or_true : (b : Bool) → (b || true) ≡ true
or_true true = refl
or_true false = refl

-- ---- each event, of one that is not dead

pub next-alive : (g : Gate) (e : Event) → g.dead ≡ false → next g e ≡ happens g e
next-alive g e h = ap (λ b. cond b g (happens g e)) h

pub next-dead : (g : Gate) (e : Event) → g.dead ≡ true → next g e ≡ g
next-dead g e h = ap (λ b. cond b g (happens g e)) h

-- a message

pub marks_in-said : (g : Gate) (m : ℕ) (text : List ℕ) → marks_in (said g m text).clients
    ≡ if_some (client_at g.clients m) (marks_in g.clients) (λ c. cond (may_say c) (marks_in (at_client m (saying text) g.clients)) (marks_in g.clients))
marks_in-said g m text = by (client_at g.clients m)
  where
    heard : (c : Client) (b : Bool) → marks_in (cond b (hears g m c text) g).clients ≡ cond b (marks_in (at_client m (saying text) g.clients)) (marks_in g.clients)
    heard c true = ap (λ (s : Sign). s.slots) (IsHeardSign-hears g m c text).sign
    heard c false = refl

    by : (o : Option Client) → marks_in (if_some o g (λ c. cond (may_say c) (hears g m c text) g)).clients
        ≡ if_some o (marks_in g.clients) (λ c. cond (may_say c) (marks_in (at_client m (saying text) g.clients)) (marks_in g.clients))
    by None = refl
    by (Some c) = heard c (may_say c)

pub cond-same : {X Y : Type 0} (f : X → Y) (b : Bool) (x y : X) (z : Y) → f x ≡ z → f y ≡ z → f (cond b x y) ≡ z
cond-same f true x y z h k = h
cond-same f false x y z h k = k

said_at : (g : Gate) (m : ℕ) (text : List ℕ) (j : ℕ) (c : Client) → client_at g.clients j ≡ Some c
    → client_at (marks_in (said g m text).clients) j ≡ Some (mark_behind j c (message m text))
said_at g m text j c h = ap (λ z. client_at z j) (marks_in-said g m text) ∙ by (m == j) refl
  where
    before : client_at (marks_in g.clients) j ≡ Some (mark_of c)
    before = mark_at g.clients j ∙ ap (option_map mark_of) h

    dropped : (b : Bool) (k : Card) → Some ((marking k c.dropped)) ≡ Some ((marking k (c.dropped || false)))
    dropped b k = ap (λ d. Some ((marking k d))) (sym (or_false c.dropped))

    this : m ≡ j → (b : Bool) → client_at (cond b (marks_in (at_client m (saying text) g.clients)) (marks_in g.clients)) j ≡ Some ((marking (cond b (card (saying text c)) (card c)) c.dropped))
    this e true =
        mark_at (at_client m (saying text) g.clients) j
        ∙ ap (option_map mark_of) (ap (λ i. client_at (at_client i (saying text) g.clients) j) e ∙ (client_at-at_client j (saying text) g.clients ∙ ap (option_map (saying text)) h))
    this e false = before

    other : (m ≡ j → ⊥) → (o : Option Client) → client_at (if_some o (marks_in g.clients) (λ d. cond (may_say d) (marks_in (at_client m (saying text) g.clients)) (marks_in g.clients))) j ≡ Some (mark_of c)
    other ne None = before
    other ne (Some d) = cond-same (λ z. client_at z j) (may_say d) _ _ (Some (mark_of c))
        (mark_at (at_client m (saying text) g.clients) j ∙ ap (option_map mark_of) (client_at-at_other_client m j (saying text) g.clients ne ∙ h)) before

    by : (b : Bool) → (m == j) ≡ b
        → client_at (if_some (client_at g.clients m) (marks_in g.clients) (λ d. cond (may_say d) (marks_in (at_client m (saying text) g.clients)) (marks_in g.clients))) j
        ≡ Some ((marking (cond ((m == j) && may_say c) (card (saying text c)) (card c)) (c.dropped || false)))
    by true e =
        let same = eqb-true m j e in
        ap (λ o. client_at (if_some o (marks_in g.clients) (λ d. cond (may_say d) (marks_in (at_client m (saying text) g.clients)) (marks_in g.clients))) j) (ap (client_at g.clients) same ∙ h)
        ∙ (this same (may_say c) ∙ (dropped true (cond (may_say c) (card (saying text c)) (card c)) ∙ ap (λ b. Some ((marking (cond (b && may_say c) (card (saying text c)) (card c)) (c.dropped || false)))) (sym e)))
    by false e = other (eqb-false m j e) (client_at g.clients m) ∙ (dropped false (card c) ∙ ap (λ b. Some ((marking (cond (b && may_say c) (card (saying text c)) (card c)) (c.dropped || false)))) (sym e))

-- a client comes

pub record Opens (g : Gate) (m : ℕ) (token : List ℕ) (t : Token) : Type 0 where
  pub opened : token_of g.tokens (sha256 token) ≡ Some t
  pub free : is_free m g.clients ≡ true
  pub session : has_session g t.role ≡ true

and_true : (b d : Bool) → (b && d) ≡ true → (b ≡ true) × (d ≡ true)
and_true true d h = (refl, h)
and_true false d h = cc

pub Opens-token_for : (g : Gate) (m : ℕ) (token : List ℕ) (t : Token) → token_for g m token ≡ Some t → Opens g m token t
Opens-token_for g m token t h = by (token_of g.tokens (sha256 token)) refl h
  where
    test : (r : Token) (b : Bool) → (is_name r.role && (is_free m g.clients && has_session g r.role)) ≡ b → token_of g.tokens (sha256 token) ≡ Some r → cond b (Some r) None ≡ Some t → Opens g m token t
    test r true x o e =
        let same : r ≡ t = cc in
        let tests = and_true (is_free m g.clients) (has_session g r.role) (and_true (is_name r.role) (is_free m g.clients && has_session g r.role) x).1 in
        record { opened = o ∙ ap Some same; free = tests.0; session = ap (λ (z : Token). has_session g z.role) (sym same) ∙ tests.1 }
    test r false x o e = absurd (not_None-Some t (sym e))

    by : (o : Option Token) → token_of g.tokens (sha256 token) ≡ o
        → option_and_then (λ (r : Token). cond (is_name r.role && (is_free m g.clients && has_session g r.role)) (Some r) None) o ≡ Some t → Opens g m token t
    by None o e = absurd (not_None-Some t (sym e))
    by (Some r) o e = test r (is_name r.role && (is_free m g.clients && has_session g r.role)) refl o e

-- the gateway behind it
abbrev pub came_as : Gate → ℕ → Token → Gate
came_as g m t = let h = with_session g t.role in record h { clients = set h.clients m (Some (fresh h.entries t (at_text h t))) }

pub sign-came_as : (g : Gate) (m : ℕ) (t : Token) → sign (came_as g m t) ≡ record (sign g) { slots = set (marks_in g.clients) m (Some (mark_of (fresh g.entries t (at_text g t)))) }
sign-came_as g m t =
    let h = with_session g t.role in
    ap (λ z. record (sign h) { slots = z }) (set_marks m (Some (fresh h.entries t (at_text h t))) h.clients)
    ∙ ap (λ (s : Sign). record s { slots = set s.slots m (Some (mark_of (fresh g.entries t (at_text g t)))) }) (sign-with_session g t.role)

came_other : (g : Gate) (m : ℕ) (token : List ℕ) (j : ℕ) (o : Option Token) → token_for g m token ≡ o → ((t : Token) → token_for g m token ≡ Some t → m ≡ j → ⊥)
    → client_at (marks_in (if_some o g (came_as g m)).clients) j ≡ client_at (marks_in g.clients) j
came_other g m token j None e ne = refl
came_other g m token j (Some t) e ne =
    ap (λ (s : Sign). client_at s.slots j) (sign-came_as g m t) ∙ client_at-set_other m j (Some (mark_of (fresh g.entries t (at_text g t))))
    (marks_in g.clients) (ne t e)

came_at : (g : Gate) (m : ℕ) (token : List ℕ) (j : ℕ) (c : Client) → client_at g.clients j ≡ Some c → client_at (marks_in (came g m token).clients) j ≡ Some (mark_of c)
came_at g m token j c h =
    came_other g m token j (token_for g m token) refl
    (λ t e same. false≢true (sym (is_free-client_at m c g.clients (ap (client_at g.clients) same ∙ h)) ∙ (Opens-token_for g m token t e).free))
    ∙ (mark_at g.clients j ∙ ap (option_map mark_of) h)

-- one goes

gone_sign : (g : Gate) (m : ℕ) (c : Client) → (ks : List ℕ) → sign (let h = all_swept (record g { clients = set g.clients m None }) ks in settles (all_rested h (filter (is_of_role c.role) h.seats)))
    ≡ record (sign g) { slots = set (marks_in g.clients) m None }
gone_sign g m c ks =
    let h = all_swept (record g { clients = set g.clients m None }) ks in
    sign-settles (all_rested h (filter (is_of_role c.role) h.seats)) ∙ (sign-all_rested h (filter (is_of_role c.role) h.seats)
    ∙ (sign-all_swept (record g { clients = set g.clients m None }) ks ∙ ap (λ z. record (sign g) { slots = z }) (set_marks m None g.clients)))

pub sign-went : (g : Gate) (m : ℕ) → sign (went g m) ≡ record (sign g) { slots = if_some (client_at g.clients m) (marks_in g.clients) (λ c. set (marks_in g.clients) m None) }
sign-went g m = by (client_at g.clients m)
  where
    by : (o : Option Client) → sign (if_some o g (λ c. let h = all_swept (record g { clients = set g.clients m None }) (map (λ s. s.feed) c.subs) in settles (all_rested h (filter (is_of_role c.role) h.seats))))
        ≡ record (sign g) { slots = if_some o (marks_in g.clients) (λ c. set (marks_in g.clients) m None) }
    by None = refl
    by (Some c) = gone_sign g m c (map (λ s. s.feed) c.subs)

went_other : (g : Gate) (m j : ℕ) → (m ≡ j → ⊥) → client_at (marks_in (went g m).clients) j ≡ client_at (marks_in g.clients) j
went_other g m j ne = ap (λ (s : Sign). client_at s.slots j) (sign-went g m) ∙ by (client_at g.clients m)
  where
    by : (o : Option Client) → client_at (if_some o (marks_in g.clients) (λ c. set (marks_in g.clients) m None)) j ≡ client_at (marks_in g.clients) j
    by None = refl
    by (Some c) = client_at-set_other m j None (marks_in g.clients) ne

went_gone : (g : Gate) (m : ℕ) → client_at (marks_in (went g m).clients) m ≡ None
went_gone g m = ap (λ (s : Sign). client_at s.slots m) (sign-went g m) ∙ by (client_at g.clients m) refl
  where
    by : (o : Option Client) → client_at g.clients m ≡ o → client_at (if_some o (marks_in g.clients) (λ c. set (marks_in g.clients) m None)) m ≡ None
    by None e = mark_at g.clients m ∙ ap (option_map mark_of) e
    by (Some c) e = client_at-set_None m (marks_in g.clients)

-- all are changed, or one

every_at : (f : Client → Client) (slots : Slots) (j : ℕ) (c : Client) → client_at slots j ≡ Some c → client_at (marks_in (at_all f slots)) j ≡ Some (mark_of (f c))
every_at f slots j c h = mark_at (at_all f slots) j ∙ ap (option_map mark_of) (client_at-at_all f slots j ∙ ap (option_map f) h)

checked_mark : (tokens : List Token) (c : Client) → mark_of (checked tokens c) ≡ (marking (card c) (c.dropped || not (opens tokens c)))
checked_mark tokens c = by (opens tokens c)
  where
    by : (b : Bool) → mark_of (cond b c (dropping c)) ≡ (marking (card c) (c.dropped || not b))
    by true = ap (λ d. (marking (card c) d)) (sym (or_false c.dropped))
    by false = ap (λ d. (marking (card c) d)) (sym (or_true c.dropped))

released_mark : (c : Client) → mark_of (released c) ≡ (marking (card c) (c.dropped || is_slow c))
released_mark c = by (c.dropped) refl (is_slow c)
  where
    by : (b : Bool) → c.dropped ≡ b → (d : Bool) → mark_of (cond (b || d) (dropping c) (record c { unsynced = []; sendable = c.sendable ++ c.unsynced })) ≡ (marking (card c) (b || d))
    by true e d = refl
    by false e true = refl
    by false e false = ap (λ z. (marking (card c) z)) e

handed_at : (g : Gate) (m j : ℕ) (c : Client) → client_at g.clients j ≡ Some c → client_at (marks_in (at_client m handing g.clients)) j ≡ Some (mark_behind j c (handed m))
handed_at g m j c h = mark_at (at_client m handing g.clients) j ∙ by (m == j) refl
  where
    card_by : Bool → Card
    card_by b = cond b (card (handing c)) (card c)

    whole : (b : Bool) → mark_of (cond b c (record c { sendable = []; asked = 0; handed = c.handed ++ c.sendable ∷ [] })) ≡ (marking (card (cond b c (record c { sendable = []; asked = 0; handed = c.handed ++ c.sendable ∷ [] }))) (c.dropped || false))
    whole true = ap (λ d. (marking (card c) d)) (sym (or_false c.dropped))
    whole false = ap (λ d. (marking (card (record c { sendable = []; asked = 0; handed = c.handed ++ c.sendable ∷ [] })) d)) (sym (or_false c.dropped))

    by : (b : Bool) → (m == j) ≡ b → option_map mark_of (client_at (at_client m handing g.clients) j) ≡ Some ((marking (cond (m == j) (card (handing c)) (card c)) (c.dropped || false)))
    by true e =
        ap (option_map mark_of) (ap (λ i. client_at (at_client i handing g.clients) j) (eqb-true m j e) ∙ (client_at-at_client j handing g.clients ∙ ap (option_map handing) h))
        ∙ (ap Some (whole (length c.sendable == 0)) ∙ ap (λ b. Some ((marking (cond b (card (handing c)) (card c)) (c.dropped || false)))) (sym e))
    by false e =
        ap (option_map mark_of) (client_at-at_other_client m j handing g.clients (eqb-false m j e) ∙ h)
        ∙ (ap (λ d. Some ((marking (card c) d))) (sym (or_false c.dropped)) ∙ ap (λ b. Some ((marking (cond b (card (handing c)) (card c)) (c.dropped || false)))) (sym e))

unchanged : (c : Client) → Some (mark_of c) ≡ Some ((marking (card c) (c.dropped || false)))
unchanged c = ap (λ d. Some ((marking (card c) d))) (sym (or_false c.dropped))

-- a step comes

-- what a step adds to the journal
abbrev pub taken_by : Gate → Step → List Entry
taken_by g s = cond (is_some (fault_of g s)) [] (cond (was_taken g s) [] (if_some (stepped (map fact_of s.requests) g.machine) [] (λ o. entry_of s ∷ [])))

pub sign-takes : (g : Gate) (s : Step) → sign (takes g s) ≡ record { marks = marks_behind g (arrived s); entries = g.entries ++ taken_by g s; slots = marks_in g.clients }
sign-takes g s = by (is_some (fault_of g s)) (was_taken g s) (stepped (map fact_of s.requests) g.machine)
  where
    with_marks : Marks → List Entry → Sign
    with_marks m es = record { marks = m; entries = es; slots = marks_in g.clients }

    same : (m : Marks) → with_marks m g.entries ≡ with_marks m (g.entries ++ [])
    same m = ap (with_marks m) (sym (append-nil g.entries))

    by : (b d : Bool) (o : Option Outcome) → sign (cond b (record g { dead = true }) (cond d g (if_some o g (landed g (entry_of s)))))
        ≡ record { marks = cond b (record (marks g) { dead = true }) (marks g); entries = g.entries ++ cond b [] (cond d [] (if_some o [] (λ x. entry_of s ∷ []))); slots = marks_in g.clients }
    by true d o = same (record (marks g) { dead = true })
    by false true o = same (marks g)
    by false false None = same (marks g)
    by false false (Some o) = sign-landed g (entry_of s) o

pub marks_in-takes : (g : Gate) (s : Step) → marks_in (takes g s).clients ≡ marks_in g.clients
marks_in-takes g s = ap (λ (x : Sign). x.slots) (sign-takes g s)

-- who stays
stays_at : (g : Gate) (e : Event) (j : ℕ) (c : Client) → client_at g.clients j ≡ Some c → is_gone j e ≡ false → client_at (marks_in (happens g e).clients) j ≡ Some (mark_behind j c e)
stays_at g (presented m token) j c h n = came_at g m token j c h ∙ unchanged c
stays_at g (message m text) j c h n = said_at g m text j c h
stays_at g (gone m) j c h n = went_other g m j (eqb-false m j n) ∙ (mark_at g.clients j ∙ (ap (option_map mark_of) h ∙ unchanged c))
stays_at g (known tokens) j c h n = every_at (checked tokens) g.clients j c h ∙ ap Some (checked_mark tokens c)
stays_at g ticked j c h n = every_at (beating g.entries) g.clients j c h ∙ unchanged c
stays_at g synced j c h n = every_at released g.clients j c h ∙ ap Some (released_mark c)
stays_at g (handed m) j c h n = handed_at g m j c h
stays_at g (arrived s) j c h n = ap (λ z. client_at z j) (marks_in-takes g s) ∙ (mark_at g.clients j ∙ (ap (option_map mark_of) h ∙ unchanged c))
stays_at g led j c h n = mark_at g.clients j ∙ (ap (option_map mark_of) h ∙ unchanged c)
stays_at g forgave j c h n = mark_at g.clients j ∙ (ap (option_map mark_of) h ∙ unchanged c)
stays_at g failed j c h n = mark_at g.clients j ∙ (ap (option_map mark_of) h ∙ unchanged c)

-- a number that nobody has stays so
none_mark : (slots : Slots) (j : ℕ) → client_at (marks_in slots) j ≡ None → client_at slots j ≡ None
none_mark slots j h = by (client_at slots j) (sym (mark_at slots j) ∙ h)
  where
    by : (o : Option Client) → option_map mark_of o ≡ None → o ≡ None
    by None e = refl
    by (Some c) e = absurd (not_None-Some (mark_of c) e)

at_none : (m j : ℕ) (f : Client → Client) (slots : Slots) → client_at slots j ≡ None → client_at (at_client m f slots) j ≡ None
at_none m j f slots h = by (m == j) refl
  where
    by : (b : Bool) → (m == j) ≡ b → client_at (at_client m f slots) j ≡ None
    by true e = ap (λ i. client_at (at_client i f slots) j) (eqb-true m j e) ∙ (client_at-at_client j f slots ∙ ap (option_map f) h)
    by false e = client_at-at_other_client m j f slots (eqb-false m j e) ∙ h

said_none : (g : Gate) (m : ℕ) (text : List ℕ) (j : ℕ) → client_at g.clients j ≡ None → client_at (marks_in (said g m text).clients) j ≡ None
said_none g m text j h = ap (λ z. client_at z j) (marks_in-said g m text) ∙ by (client_at g.clients m)
  where
    before : client_at (marks_in g.clients) j ≡ None
    before = mark_at g.clients j ∙ ap (option_map mark_of) h

    by : (o : Option Client) → client_at (if_some o (marks_in g.clients) (λ d. cond (may_say d) (marks_in (at_client m (saying text) g.clients)) (marks_in g.clients))) j ≡ None
    by None = before
    by (Some d) = cond-same (λ z. client_at z j) (may_say d) _ _ None (mark_at (at_client m (saying text) g.clients) j ∙ ap (option_map mark_of) (at_none m j (saying text) g.clients h)) before

-- ---- who comes

pub client_at-came_as : (g : Gate) (m : ℕ) (t : Token) → is_free m g.clients ≡ true → client_at (came_as g m t).clients m ≡ Some (fresh (came_as g m t).entries t (at_text (came_as g m t) t))
client_at-came_as g m t free =
    let h = with_session g t.role in client_at-set_free m (fresh h.entries t (at_text h t)) h.clients free_marks
  where
    free_of : (slots : Slots) (j : ℕ) → is_free j (marks_in slots) ≡ is_free j slots
    free_of [] j = refl
    free_of (None ∷ ss) zero = refl
    free_of (Some c ∷ ss) zero = refl
    free_of (s ∷ ss) (suc j) = free_of ss j

    free_marks : is_free m (with_session g t.role).clients ≡ true
    free_marks =
        sym (free_of (with_session g t.role).clients m) ∙ (ap (λ (s : Sign). is_free m s.slots) (sign-with_session g t.role) ∙ (free_of g.clients m ∙ free))

pub record IsCome (g h : Gate) (m : ℕ) (token : List ℕ) (d : Client) : Type 0 where
  pub from : Token
  pub opened : token_of g.tokens (sha256 token) ≡ Some from
  pub is : d ≡ fresh h.entries from (at_text h from)

came_new : (g : Gate) (m : ℕ) (token : List ℕ) (d : Client) (o : Option Token) → token_for g m token ≡ o → client_at g.clients m ≡ None
    → client_at (if_some o g (came_as g m)).clients m ≡ Some d → IsCome g (if_some o g (came_as g m)) m token d
came_new g m token d None e n h = absurd (not_None-Some d (sym h ∙ n))
came_new g m token d (Some t) e n h =
    let o = Opens-token_for g m token t e in
    record { from = t; opened = o.opened; is = same-Some d _ (sym h ∙ client_at-came_as g m t o.free) }

comes_at : (g : Gate) (e : Event) (j : ℕ) (d : Client) → g.dead ≡ false → client_at g.clients j ≡ None → client_at (next g e).clients j ≡ Some d → IsNewcomer g e j d
comes_at g e j d live n h = by e refl (ap (λ (x : Gate). client_at x.clients j) (sym (next-alive g e live)) ∙ h)
  where
    nobody : client_at (marks_in g.clients) j ≡ None
    nobody = mark_at g.clients j ∙ ap (option_map mark_of) n

    never : (slots : Slots) → client_at (marks_in slots) j ≡ None → client_at slots j ≡ Some d → IsNewcomer g e j d
    never slots a b = absurd (not_None-Some d (sym b ∙ none_mark slots j a))

    came_by : (m : ℕ) (token : List ℕ) (b : Bool) → (m == j) ≡ b → e ≡ presented m token → client_at (came g m token).clients j ≡ Some d → IsNewcomer g e j d
    came_by m token true q s x =
        let same = eqb-true m j q in
        let c = came_new g j token d (token_for g j token) refl n (ap (λ i. client_at (came g i token).clients j) (sym same) ∙ x) in
        let is_next : next g e ≡ came g j token = next-alive g e live ∙ (ap (happens g) s ∙ ap (λ i. came g i token) same) in
        record { text = token; token = c.from; event = s ∙ ap (λ i. presented i token) same; opened = c.opened; is = c.is ∙ ap (λ (x : Gate). fresh x.entries c.from (at_text x c.from)) (sym is_next) }
    came_by m token false q s x = never (came g m token).clients (came_other g m token j (token_for g m token) refl (λ t _. eqb-false m j q) ∙ nobody) x

    went_by : (m : ℕ) (b : Bool) → (m == j) ≡ b → client_at (marks_in (went g m).clients) j ≡ None
    went_by m true q = ap (λ i. client_at (marks_in (went g m).clients) i) (sym (eqb-true m j q)) ∙ went_gone g m
    went_by m false q = went_other g m j (eqb-false m j q) ∙ nobody

    by : (f : Event) → e ≡ f → client_at (happens g f).clients j ≡ Some d → IsNewcomer g e j d
    by (presented m token) s x = came_by m token (m == j) refl s x
    by (message m text) s x = never (said g m text).clients (said_none g m text j n) x
    by (gone m) s x = never (went g m).clients (went_by m (m == j) refl) x
    by (known tokens) s x = absurd (not_None-Some d (sym x ∙ (client_at-at_all (checked tokens) g.clients j ∙ ap (option_map (checked tokens)) n)))
    by ticked s x = absurd (not_None-Some d (sym x ∙ (client_at-at_all (beating g.entries) g.clients j ∙ ap (option_map (beating g.entries)) n)))
    by synced s x = absurd (not_None-Some d (sym x ∙ (client_at-at_all released g.clients j ∙ ap (option_map released) n)))
    by (handed m) s x = absurd (not_None-Some d (sym x ∙ at_none m j handing g.clients n))
    by (arrived s) q x = never (takes g s).clients (ap (λ z. client_at z j) (marks_in-takes g s) ∙ nobody) x
    by led s x = absurd (not_None-Some d (sym x ∙ n))
    by forgave s x = absurd (not_None-Some d (sym x ∙ n))
    by failed s x = absurd (not_None-Some d (sym x ∙ n))

pub client_at-is_gone : (g : Gate) (e : Event) (j : ℕ) → is_gone j e ≡ true → client_at (happens g e).clients j ≡ None
client_at-is_gone g (gone m) j h = none_mark (went g m).clients j (ap (λ i. client_at (marks_in (went g m).clients) i) (sym (eqb-true m j h)) ∙ went_gone g m)
client_at-is_gone g (presented m token) j h = absurd (false≢true h)
client_at-is_gone g (message m text) j h = absurd (false≢true h)
client_at-is_gone g (known tokens) j h = absurd (false≢true h)
client_at-is_gone g ticked j h = absurd (false≢true h)
client_at-is_gone g synced j h = absurd (false≢true h)
client_at-is_gone g (handed m) j h = absurd (false≢true h)
client_at-is_gone g (arrived s) j h = absurd (false≢true h)
client_at-is_gone g led j h = absurd (false≢true h)
client_at-is_gone g forgave j h = absurd (false≢true h)
client_at-is_gone g failed j h = absurd (false≢true h)

pub AreTouched-next : (g : Gate) (e : Event) → g.dead ≡ false → AreTouched g e
AreTouched-next g e live = record {
  stays = λ m c h n. kept_of g e m c (marked (next g e).clients m (mark_behind m c e) (ap (λ (x : Gate). client_at (marks_in x.clients) m) (next-alive g e live) ∙ stays_at g e m c h n));
  leaves = λ m h. ap (λ (x : Gate). client_at x.clients m) (next-alive g e live) ∙ client_at-is_gone g e m h;
  comes = λ m d n h. comes_at g e m d live n h;
}

-- ---- marks and entries

pub record Left : Type 0 where
  pub marks : Marks
  pub entries : List Entry

abbrev pub left : Gate → Left
left g = record { marks = marks g; entries = g.entries }

-- what an event adds comes after the entries
pub record IsLeft (g : Gate) (e : Event) : Type 0 where
  pub more : List Entry
  pub left : left (happens g e) ≡ record { marks = marks_behind g e; entries = g.entries ++ more }

left_by : (g : Gate) (e : Event) (m : Marks) → marks_behind g e ≡ m → left (happens g e) ≡ record { marks = m; entries = g.entries } → IsLeft g e
left_by g e m x y = record { more = []; left = y ∙ (λ i. record { marks = sym x i; entries = sym (append-nil g.entries) i }) }

abbrev of_sign : Sign → Left
of_sign s = record { marks = s.marks; entries = s.entries }

said_left : (g : Gate) (m : ℕ) (text : List ℕ) → IsLeft g (message m text)
said_left g m text = by (client_at g.clients m) refl
  where
    heard : (c : Client) (b : Bool) → (more : List Entry) × (left (cond b (hears g m c text) g) ≡ record { marks = marks g; entries = g.entries ++ more })
    heard c true = let x = IsHeardSign-hears g m c text in (x.more, ap of_sign x.sign ∙ ap (λ z. record { marks = marks g; entries = z }) x.entries)
    heard c false = ([], ap (λ z. record { marks = marks g; entries = z }) (sym (append-nil g.entries)))

    by : (o : Option Client) → client_at g.clients m ≡ o → IsLeft g (message m text)
    by None e = left_by g (message m text) (marks g) refl (ap (λ o. left (if_some o g (λ c. cond (may_say c) (hears g m c text) g))) e)
    by (Some c) e = let x = heard c (may_say c) in record { more = x.0; left = ap (λ o. left (if_some o g (λ c. cond (may_say c) (hears g m c text) g))) e ∙ x.1 }

pub is_left : (g : Gate) (e : Event) → IsLeft g e
is_left g (presented m token) = left_by g (presented m token) (marks g) refl (by (token_for g m token))
  where
    by : (o : Option Token) → left (if_some o g (came_as g m)) ≡ left g
    by None = refl
    by (Some t) = ap of_sign (sign-came_as g m t)
is_left g (message m text) = said_left g m text
is_left g (gone m) = left_by g (gone m) (marks g) refl (ap of_sign (sign-went g m))
is_left g (known tokens) = left_by g (known tokens) (record (marks g) { tokens = tokens }) refl refl
is_left g ticked = left_by g ticked (marks g) refl refl
is_left g synced = left_by g synced (record (marks g) { kept = length g.entries }) refl refl
is_left g (handed m) = left_by g (handed m) (marks_behind g (handed m)) refl refl
is_left g (arrived s) = record { more = taken_by g s; left = ap of_sign (sign-takes g s) }
is_left g led = left_by g led (record (marks g) { leads = is_some g.head.log }) refl refl
is_left g forgave = left_by g forgave (record (marks g) { forgiven = length g.entries }) refl refl
is_left g failed = left_by g failed (record (marks g) { dead = true }) refl refl

pub marks-next : (g : Gate) (e : Event) → g.dead ≡ false → marks (next g e) ≡ marks_behind g e
marks-next g e live = ap marks (next-alive g e live) ∙ ap (λ (x : Left). x.marks) (is_left g e).left

pub entries-next : (g : Gate) (e : Event) → g.dead ≡ false → (next g e).entries ≡ g.entries ++ added_by g e
entries-next g e live = append-drop_front g.entries (is_left g e).more (next g e).entries (ap (λ (x : Gate). x.entries) (next-alive g e live) ∙ ap (λ (x : Left). x.entries) (is_left g e).left)
