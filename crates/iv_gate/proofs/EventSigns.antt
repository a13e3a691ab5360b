-- What events leave of marks, of the entries, and of each client's card.
use Rattle.std.proofs.Common.{◌≡◌, ℕ, zero, suc, Bool, true, false, cond, List, [], ◌∷◌, ◌++◌, map, Option, Some, None, option_map, refl, ap, ◌∙◌, sym, append-nil}
use Rattle.serde_json.specs.Data.{Data}
use Rattle.iv_access.specs.Rights.{Name}
use Rattle.iv_machine.specs.Act.{Command, Reply, refused}
use Rattle.iv_machine.specs.Machine.{Outcome, step}
use Rattle.iv_message.specs.Message.{Message}
use Rattle.iv_message.specs.Told.{Told, granted, settled}
use Rattle.iv_clients.specs.Clients as clients
use Rattle.iv_clients.specs.Clients.{Client, Shown, Slots, at_all, at_client, closing, following, moved, own_lines, saying, settling, staying, telling, told_one}
use Rattle.iv_clients.specs.Feeds.{Seat}
use Rattle.iv_records.specs.Journal.{Entry, Request, said_by, shape_for}
use Rattle.iv_once.specs.Names.{Ask}
use Rattle.iv_clients.specs.Tokens.{Token}
use Rattle.iv_gate.specs.Arriving.{landed, newly}
use Rattle.iv_gate.specs.Gate.{Gate, Head, all_rested, all_swept, done_for, entered, entries_of, hears, in_session, informs, ran, replies_to, reply_to, reply_told, done_in, rested, settles, tells, told_of, went_on, with_session, next_position}
use Rattle.iv_gate.proofs.StepRelations.{Steps, request_of, step_all_rested, step_all_swept, step_done, step_rested, step_with}

-- ---- what is looked at

-- what tokens it knows, what the journal begins with, what of it is on disk and forgiven, what was sent, whether it leads, and whether it is dead
pub record Marks : Type 0 where
  pub tokens : List Token
  pub head : Head
  pub kept : ℕ
  pub forgiven : ℕ
  pub leads : Bool
  pub sent : List Shown
  pub dead : Bool

abbrev pub marks : Gate → Marks
marks g = record { tokens = g.tokens; head = g.head; kept = g.kept; forgiven = g.forgiven; leads = g.leads; sent = g.sent; dead = g.dead }

-- what others cannot change of a client
pub record Card : Type 0 where
  pub role : Name
  pub user : List ℕ
  pub digest : List ℕ
  pub asked : ℕ
  pub messages : List (List ℕ)
  pub handed : List (List Shown)

abbrev pub card : Client → Card
card c = record { role = c.role; user = c.user; digest = c.digest; asked = c.asked; messages = c.messages; handed = c.handed }

pub record Mark : Type 0 where
  pub card : Card
  pub dropped : Bool

abbrev pub marking : Card → Bool → Mark
marking k d = record { card = k; dropped = d }

abbrev pub mark_of : Client → Mark
mark_of c = marking (card c) c.dropped

abbrev pub marks_in : Slots → List (Option Mark)
marks_in slots = map (option_map mark_of) slots

pub record Sign : Type 0 where
  pub marks : Marks
  pub entries : List Entry
  pub slots : List (Option Mark)

abbrev pub sign : Gate → Sign
sign g = record { marks = marks g; entries = g.entries; slots = marks_in g.clients }

-- ---- clients

one_mark : (f : Client → Client) → ((c : Client) → mark_of (f c) ≡ mark_of c) → (o : Option Client) → option_map mark_of (option_map f o) ≡ option_map mark_of o
one_mark f k None = refl
one_mark f k (Some c) = ap Some (k c)

pub all_marks : (f : Client → Client) → ((c : Client) → mark_of (f c) ≡ mark_of c) → (slots : Slots) → marks_in (at_all f slots) ≡ marks_in slots
all_marks f k [] = refl
all_marks f k (o ∷ os) = λ i. one_mark f k o i ∷ all_marks f k os i

pub at_marks : (m : ℕ) (f : Client → Client) → ((c : Client) → mark_of (f c) ≡ mark_of c) → (slots : Slots) → marks_in (at_client m f slots) ≡ marks_in slots
at_marks m f k [] = refl
at_marks zero f k (o ∷ os) = ap (λ z. z ∷ marks_in os) (one_mark f k o)
at_marks (suc m) f k (o ∷ os) = ap (λ z. option_map mark_of o ∷ z) (at_marks m f k os)

telling_mark : (es : List Entry) (ts : List Told) (c : Client) → mark_of (telling es ts c) ≡ mark_of c
telling_mark es [] c = refl
telling_mark es (t ∷ ts) c = telling_mark es ts (told_one es t c)

pub settling_mark : (es : List Entry) (c : Client) → mark_of (settling es c) ≡ mark_of c
settling_mark es c = by c.owed
  where
    by : (b : Bool) → mark_of (cond b (record (told_one es settled c) { owed = false }) c) ≡ mark_of c
    by true = refl
    by false = refl

-- ---- steps

pub sign_at : (g : Gate) (m : ℕ) (f : Client → Client) → ((c : Client) → mark_of (f c) ≡ mark_of c) → sign (record g { clients = at_client m f g.clients }) ≡ sign g
sign_at g m f k = ap (λ z. record (sign g) { slots = z }) (at_marks m f k g.clients)

pub sign_ran : (g : Gate) (k : Command) → sign (ran g k) ≡ sign g
sign_ran g k = ap (λ z. record (sign g) { slots = z })
    (all_marks (λ c. staying (step g.machine k).lines (telling g.entries (told_of g k.act (step g.machine k) c) c)) (λ c. telling_mark g.entries (told_of g k.act (step g.machine k) c) c) g.clients)

pub sign_went : (g : Gate) (o : Outcome) (ts : Client → List Told) → sign (went_on g o ts) ≡ sign g
sign_went g o ts = ap (λ z. record (sign g) { slots = z }) (all_marks (λ c. staying o.lines (telling g.entries (ts c) c)) (λ c. telling_mark g.entries (ts c) c) g.clients)

pub sign_tells : (g : Gate) (m : ℕ) (t : Told) → sign (tells g m t) ≡ sign g
sign_tells g m t = sign_at g m (told_one g.entries t) (λ c. refl)

sign_informs : (g : Gate) (es : List Entry) → sign (informs g es) ≡ sign g
sign_informs g es = ap (λ z. record (sign g) { slots = z }) (all_marks (λ c. telling g.entries (shape_for c.role es) c) (λ c. telling_mark g.entries (shape_for c.role es) c) g.clients)

pub sign-settles : (g : Gate) → sign (settles g) ≡ sign g
sign-settles g = ap (λ z. record (sign g) { slots = z }) (all_marks (settling g.entries) (settling_mark g.entries) g.clients)

abbrev SameSign : Gate → Gate → Type 0
SameSign g h = sign h ≡ sign g

sign_steps : (m : ℕ) → Steps m SameSign
sign_steps m = record {
  same = λ g. refl;
  chain = λ g h i x y. y ∙ x;
  run = λ g k e. sign_ran g k;
  settle = sign-settles;
  tell = λ g t _. sign_tells g m t;
  seat = λ g seats. refl;
  feed = λ g feeds. refl;
  follow = λ g k. sign_at g m (following k) (λ c. refl);
  move = λ g t k. sign_at g m (moved t k) (λ c. refl);
  close = λ g own. sign_at g m (closing own) (λ c. refl);
}

pub sign-with_session : (g : Gate) (role : Name) → sign (with_session g role) ≡ sign g
sign-with_session g role = step_with 0 SameSign (sign_steps 0) g role

pub sign_rested : (g : Gate) (s : Seat) → sign (rested g s) ≡ sign g
sign_rested g s = step_rested 0 SameSign (sign_steps 0) g s

pub sign-all_rested : (g : Gate) (ss : List Seat) → sign (all_rested g ss) ≡ sign g
sign-all_rested g ss = step_all_rested 0 SameSign (sign_steps 0) g ss

pub sign-all_swept : (g : Gate) (ks : List ℕ) → sign (all_swept g ks) ≡ sign g
sign-all_swept g ks = step_all_swept 0 SameSign (sign_steps 0) g ks

-- a step
pub sign-landed : (g : Gate) (e : Entry) (o : Outcome) → sign (landed g e o) ≡ record (sign g) { entries = g.entries ++ e ∷ [] }
sign-landed g e o =
    let h = entered g (e ∷ []) in let ts = λ (c : Client). own_lines g.feeds o.lines c.subs ++ map granted (newly g.machine.frame o.state.frame c.role) in let i = went_on h o ts in
    sign-settles (informs i (e ∷ [])) ∙ (sign_informs i (e ∷ []) ∙ sign_went h o ts)

-- ---- messages

-- more entries come after those that were
pub record IsMore (g h : Gate) : Type 0 where
  pub more : List Entry
  pub entries : h.entries ≡ g.entries ++ more
  pub sign : sign h ≡ record (sign g) { entries = h.entries }

more_same : (g h : Gate) → sign h ≡ sign g → IsMore g h
more_same g h e = record { more = []; entries = ap (λ (s : Sign). s.entries) e ∙ sym (append-nil g.entries); sign = e ∙ ap (λ z. record (sign g) { entries = z }) (sym (ap (λ (s : Sign). s.entries) e)) }

-- what a request adds is what it is to
pub sign_replies : (g : Gate) (m : ℕ) (id : Option Data) (q : Request) (name : Option Ask) (r : Reply) → sign (replies_to g m id q name r) ≡ record (sign g) { entries = g.entries ++ entries_of (next_position g) q name r }
sign_replies g m id q name r = let h = entered g (entries_of (next_position g) q name r) in sign_tells h m (reply_told h id name r)

pub sign_requests : (g : Gate) (m : ℕ) (id : Option Data) (q : Request) (name : Option Ask) (n : ℕ)
    → sign (done_in g m id q name n) ≡ record (sign g) { entries = g.entries ++ entries_of (next_position g) q name (reply_to g (in_session n q.act)) }
sign_requests g m id q name n =
    let k = in_session n q.act in let r = reply_to g k in let h = replies_to g m id q name r in
    sign_informs (ran h k) (entries_of (next_position g) q name r) ∙ (sign_ran h k ∙ sign_replies g m id q name r)

sign_done : (g : Gate) (m : ℕ) (c : Client) (text : List ℕ) (s : Message) → IsMore g (done_for g m c text s)
sign_done g m c text s = step_done m SameSign (sign_steps m) g (IsMore g) (λ h e. more_same g h e) c text s
    (λ id act name n e shared seat. let q = request_of c text act in let es = entries_of (next_position g) q name (reply_to g (in_session n q.act)) in let x = sign_requests g m id q name n in
    record { more = es; entries = ap (λ (z : Sign). z.entries) x; sign = x ∙ ap (λ z. record (sign g) { entries = z }) (sym (ap (λ (z : Sign). z.entries) x)) })
    (λ id act a r e shared. let q = request_of c text act in let es = entries_of (next_position g) q (Some a) (refused r) in let x = sign_replies g m id q (Some a) (refused r) in
    record { more = es; entries = ap (λ (z : Sign). z.entries) x; sign = x ∙ ap (λ z. record (sign g) { entries = z }) (sym (ap (λ (z : Sign). z.entries) x)) })

-- what is behind a message that is heard
pub record IsHeardSign (g : Gate) (m : ℕ) (c : Client) (text : List ℕ) : Type 0 where
  pub more : List Entry
  pub entries : (hears g m c text).entries ≡ g.entries ++ more
  pub sign : sign (hears g m c text) ≡ record (sign g) { entries = (hears g m c text).entries; slots = marks_in (at_client m (saying text) g.clients) }

pub IsHeardSign-hears : (g : Gate) (m : ℕ) (c : Client) (text : List ℕ) → IsHeardSign g m c text
IsHeardSign-hears g m c text =
    let asked = record g { clients = at_client m (saying text) g.clients } in let h = done_for asked m c text (said_by text) in
    let x = sign_done asked m c text (said_by text) in
    let same = sign_at (settles h) m (clients.answered c) (λ d. refl) ∙ sign-settles h in
    record { more = x.more; entries = x.entries; sign = same ∙ x.sign }
