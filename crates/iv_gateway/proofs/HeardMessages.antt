-- A message, as the code has it done.
use Rattle.std.proofs.Common.{◌≡◌, ◌∙◌, ℕ, zero, suc, Bool, true, false, cond, ◌||◌, not, List, [], ◌∷◌, Option, Some, None, is_some, option_map, refl, ap}
use Rattle.std.proofs.Common.{sym, subst}
use Rattle.std.specs.Prelude.{codes}
use Rattle.serde_json.specs.Data.{Data}
use Rattle.iv_rows.specs.Options.{if_some}
use Rattle.iv_access.specs.Rights.{Name}
use Rattle.iv_command.specs.Views.{act_of}
use Rattle.iv_command.specs.declared.command.Act as code
use Rattle.iv_command.specs.declared.command.Act.TheVariants as asks
use Rattle.iv_machine.specs.Act.{Act, begin, finish, create_role, create_table, create_view, grant, revoke, grant_role, revoke_role, row_security}
use Rattle.iv_machine.specs.Act.{create_policy, drop_policy, subscribe, unsubscribe, write, Line, Reply, refused, limit, no_session}
use Rattle.iv_machine.specs.Machine.{step}
use Rattle.iv_machine.specs.State.{State}
use Rattle.iv_message.specs.Message.{request, unknown}
use Rattle.iv_message.specs.Told.{fault, unasked, undecided}
use Rattle.iv_once.specs.Names.{Ask, Verdict, verdict}
use Rattle.iv_once.specs.Views.{names_of as names_in_code, verdict_of}
use Rattle.iv_once.specs.declared.asks.Verdict as code_once
use Rattle.iv_clients.specs.Feeds.{seat_of}
use Rattle.iv_clients.specs.Clients.{Client, Slots, answered, at_client, client_at, may_say, saying}
use Rattle.iv_records.specs.Journal.{Entry, Request, claim_said, is_shared, line_said, said_by}
use Rattle.iv_clients.specs.Kept.{Kept, Places, answering, kept, kept_slots}
use Rattle.iv_records.specs.Names.{Claim}
use Rattle.iv_clients.proofs.Slots.{client_at-at_client, same-Some}
use Rattle.iv_gate.specs.Events.{message}
use Rattle.iv_gate.specs.Gate.{Gate, acts, done_for, hears, in_session, is_heard, replies_to, reply_in, reply_to, said, shares, is_elsewhere, next_position}
use Rattle.iv_gate.specs.Gate.{asked_by, by_verdict, carries, decided_elsewhere, decides, done_in, entered, entries_of, has_shape_room, names_of, reply_told, settles, tells}
use Rattle.iv_gate.specs.Laws.{LeavesMarks}
use Rattle.iv_gate.proofs.GrownTexts.{Grown, Kit-Grown}
use Rattle.iv_gate.proofs.ClientFacts.{to_done, to_settles, to_then}
use Rattle.iv_arrivals.specs.Speaking.{Speaking, speaker_in, speaking}
use Rattle.iv_gateway.specs.Views.{IsAlive, IsRun}
use Rattle.iv_gateway.specs.declared.gateway.Gateway.{Gateway}
use Rattle.iv_notices.proofs.ClientChanges.{kept-answered, client_at-kept_slots}

-- ---- one client

one_kept : (f : Client → Client) (h : Kept → Kept) (o : Option Client) → ((c : Client) → o ≡ Some c → kept (f c) ≡ h (kept c))
    → option_map h (option_map kept o) ≡ option_map kept (option_map f o)
one_kept f h None k = refl
one_kept f h (Some c) k = ap Some (sym (k c refl))

-- what is done to the client of a number, where it is kept so of that one
keeps_one : (m : ℕ) (f : Client → Client) (h : Kept → Kept) (slots : Slots) → ((c : Client) → client_at slots m ≡ Some c → kept (f c) ≡ h (kept c))
    → at_client m h (kept_slots slots) ≡ kept_slots (at_client m f slots)
keeps_one m f h [] k = refl
keeps_one zero f h (s ∷ ss) k = ap (λ z. z ∷ kept_slots ss) (one_kept f h s k)
keeps_one (suc m) f h (s ∷ ss) k = ap (λ z. option_map kept s ∷ z) (keeps_one m f h ss k)

-- ---- what a message has done

abbrev pub asked : Gate → ℕ → List ℕ → Gate
asked g m text = record g { clients = at_client m (saying text) g.clients }

abbrev pub did : Gate → ℕ → Client → List ℕ → Gate
did g m c text = settles (done_for (asked g m text) m c text (said_by text))

pub client_at-asked : (g : Gate) (m : ℕ) (c : Client) (text : List ℕ) → client_at g.clients m ≡ Some c
    → client_at (asked g m text).clients m ≡ Some (saying text c)
client_at-asked g m c text t = client_at-at_client m (saying text) g.clients ∙ ap (option_map (saying text)) t

-- of what its client was told before nothing is missing
grown : (g : Gate) (m : ℕ) (c d : Client) (text : List ℕ) → client_at g.clients m ≡ Some c → client_at (did g m c text).clients m ≡ Some d → Grown c d
grown g m c d text t e =
    let R : ℕ → Client → Client → Type 0 = λ i x y. Grown x y in
    let done = done_for (asked g m text) m c text (said_by text) in
    let p = to_then m (λ i x y. Grown x y) (Kit-Grown m) (asked g m text).clients done.clients (settles done).clients
    (to_done m (λ i x y. Grown x y) (Kit-Grown m) (asked g m text) c text (said_by text)) (to_settles m (λ i x y. Grown x y) (Kit-Grown m) done) m
    (saying text c)
    (client_at-asked g m c text t) in
    let x : Grown (saying text c) d = subst (Grown (saying text c)) (same-Some p.now d (sym p.there ∙ e)) p.so in
    record { more = x.more; handed = x.handed; sendable = x.sendable; unsynced = x.unsynced }

-- others brought it no more than before
pub at_client-answering : (g : Gate) (m : ℕ) (c : Client) (text : List ℕ) (brought : ℕ) (places : Places) → client_at g.clients m ≡ Some c
    → brought ≡ (kept c).brought → places ≡ kept_slots (did g m c text).clients
    → at_client m (answering brought) places ≡ kept_slots (at_client m (answered c) (did g m c text).clients)
at_client-answering g m c text brought places t e b =
    (λ i. at_client m (answering (e i)) (b i))
    ∙ keeps_one m (answered c) (answering (kept c).brought) (did g m c text).clients
    (λ d h. let x = grown g m c d text t h in kept-answered c d x.more x.unsynced)

-- ---- whether it is heard

-- the client that the code found at a number
pub record IsSpeaker (g : Gate) (m : ℕ) (s : Speaking) : Type 0 where
  pub client : Client
  pub there : client_at g.clients m ≡ Some client
  pub heard : may_say client ≡ true
  pub same : s ≡ speaking (kept client)

speaks_by : (g : Gate) (m : ℕ) (s : Speaking) (o : Option Client) → client_at g.clients m ≡ o → Some s ≡ speaker_in (option_map kept o) → IsSpeaker g m s
speaks_by g m s None e h = cc
speaks_by g m s (Some c) e h = by (may_say c) refl h
  where
    by : (b : Bool) → may_say c ≡ b → Some s ≡ cond b (Some (speaking (kept c))) None → IsSpeaker g m s
    by true k h = record { client = c; there = e; heard = k; same = same-Some s (speaking (kept c)) h }
    by false k h = cc

pub IsSpeaker-speaker_in : (g : Gate) (m : ℕ) (s : Speaking) (places : Places) → places ≡ kept_slots g.clients → Some s ≡ speaker_in (client_at places m)
    → IsSpeaker g m s
IsSpeaker-speaker_in g m s places b h =
    speaks_by g m s (client_at g.clients m) refl (h ∙ ap speaker_in (ap (λ z. client_at z m) b ∙ client_at-kept_slots g.clients m))

-- what is done is done where it is heard
pub IsAlive-said : (g : Gate) (m : ℕ) (text : List ℕ) (s : Speaking) (x : Gateway) (w : IsSpeaker g m s) → IsAlive (hears g m w.client text) x
    → (true ≡ is_heard g m) × IsAlive (said g m text) x
IsAlive-said g m text s x w a = (
  sym (ap (λ o. if_some o false may_say) w.there ∙ w.heard),
  subst (λ o. IsAlive (if_some o g (λ c. cond (may_say c) (hears g m c text) g)) x) (sym w.there)
      (subst (λ b. IsAlive (cond b (hears g m w.client text) g) x) (sym w.heard) a),
)

quiet_by : (g : Gate) (m : ℕ) (text : List ℕ) (x : Gateway) (o : Option Client) → None ≡ speaker_in (option_map kept o) → IsAlive g x
    → (false ≡ if_some o false may_say) × IsAlive (if_some o g (λ c. cond (may_say c) (hears g m c text) g)) x
quiet_by g m text x None h a = (refl, a)
quiet_by g m text x (Some c) h a = by (may_say c) h
  where
    by : (b : Bool) → None ≡ cond b (Some (speaking (kept c))) None → (false ≡ b) × IsAlive (cond b (hears g m c text) g) x
    by true h = cc
    by false h = (refl, a)

-- and nothing else is
pub IsAlive-said_unheard : (g : Gate) (m : ℕ) (text : List ℕ) (places : Places) (x : Gateway) → places ≡ kept_slots g.clients
    → None ≡ speaker_in (client_at places m)
    → IsAlive g x → (false ≡ is_heard g m) × IsAlive (said g m text) x
IsAlive-said_unheard g m text places x b h a =
    quiet_by g m text x (client_at g.clients m) (h ∙ ap speaker_in (ap (λ z. client_at z m) b ∙ client_at-kept_slots g.clients m)) a

-- a message kills nothing
pub dead-said : (g : Gate) (m : ℕ) (text : List ℕ) → g.dead ≡ false → LeavesMarks g (message m text) → (said g m text).dead ≡ g.dead
dead-said g m text h law = subst (λ b. (cond b g (said g m text)).dead ≡ g.dead) h (ap (λ (z : Gate). z.dead) law.marks)

-- ---- acts

-- what changes what is shared may have a name
pub done_shared : (g : Gate) (m : ℕ) (c : Client) (id : Option Data) (text : List ℕ) (act : Act) (x : Gateway) → is_shared act ≡ true
    → IsAlive (acts g m c id text act) x
    → IsAlive (done_for g m c text (request id act)) x
done_shared g m c id text act x h a =
    subst (λ b. IsAlive (cond (b || not (is_some (claim_said text))) (acts g m c id text act) (tells g m (unasked id (unknown (codes "once"))))) x) (sym h) a

-- and nothing else may
pub IsAlive-acts : (g : Gate) (m : ℕ) (c : Client) (id : Option Data) (text : List ℕ) (act : Act) (x : Gateway) → is_some (claim_said text) ≡ false
    → IsAlive (acts g m c id text act) x
    → IsAlive (done_for g m c text (request id act)) x
IsAlive-acts g m c id text act x h a =
    subst (λ b. IsAlive (cond b (acts g m c id text act) (tells g m (unasked id (unknown (codes "once"))))) x) (sym ((λ i. is_shared act || not (h i)) ∙ or_true (is_shared act))) a
  where
    or_true : (b : Bool) → (b || true) ≡ true
    or_true true = refl
    or_true false = refl

pub IsAlive-claim_not_shared : (g : Gate) (m : ℕ) (c : Client) (id : Option Data) (text : List ℕ) (act : Act) (x : Gateway) → is_shared act ≡ false → is_some (claim_said text) ≡ true
    → IsAlive (tells g m (unasked id (unknown (codes "once")))) x
    → IsAlive (done_for g m c text (request id act)) x
IsAlive-claim_not_shared g m c id text act x h k a =
    subst (λ b. IsAlive (cond b (acts g m c id text act) (tells g m (unasked id (unknown (codes "once"))))) x) (sym (λ i. h i || not (k i))) a

pub acts_shared : (g : Gate) (m : ℕ) (c : Client) (id : Option Data) (text : List ℕ) (act : Act) → is_shared act ≡ true
    → shares g m c id (record { role = c.role; line = line_said text; act = act }) (claim_said text) ≡ acts g m c id text act
acts_shared g m c id text (begin role) h = cc
acts_shared g m c id text finish h = cc
acts_shared g m c id text (subscribe rel) h = cc
acts_shared g m c id text (unsubscribe own) h = cc
acts_shared g m c id text (create_role name) h = refl
acts_shared g m c id text (create_table name owner columns) h = refl
acts_shared g m c id text (create_view name owner query) h = refl
acts_shared g m c id text (grant rel privileges to) h = refl
acts_shared g m c id text (revoke rel privileges to) h = refl
acts_shared g m c id text (grant_role role to) h = refl
acts_shared g m c id text (revoke_role role to) h = refl
acts_shared g m c id text (row_security rel enable force) h = refl
acts_shared g m c id text (create_policy p) h = refl
acts_shared g m c id text (drop_policy rel name) h = refl
acts_shared g m c id text (write entries) h = refl

-- by its name, in its client's role
pub IsAlive-shares : (g : Gate) (m : ℕ) (c : Client) (id : Option Data) (text line : List ℕ) (role : Name) (claim : Option Claim) (act : Act) (x : Gateway)
    → is_shared act ≡ true → role ≡ c.role → line_said text ≡ line → claim_said text ≡ claim
    → IsAlive (shares g m c id (record { role = role; line = line; act = act }) claim) x → IsAlive (done_for g m c text (request id act)) x
IsAlive-shares g m c id text line role claim act x s r l k a =
    done_shared g m c id text act x s (subst (λ z. IsAlive z x)
    ((λ i. shares g m c id (record { role = r i; line = sym l i; act = act }) (sym k i)) ∙ acts_shared g m c id text act s) a)

-- sessions are begun and finished by the gateway alone
pub acts_none : (g : Gate) (m : ℕ) (c : Client) (id : Option Data) (text : List ℕ) (act : code.Act) → is_shared (act_of act) ≡ false
    → ((rel : _) → act ≡ asks.Subscribe rel → ⊥) → ((own : _) → act ≡ asks.Unsubscribe own → ⊥)
    → tells g m (fault 2) ≡ acts g m c id text (act_of act)
acts_none g m c id text (asks.Begin role) h n k = refl
acts_none g m c id text asks.Finish h n k = refl
acts_none g m c id text (asks.Subscribe rel) h n k = absurd (n rel refl)
acts_none g m c id text (asks.Unsubscribe own) h n k = absurd (k own refl)
acts_none g m c id text (asks.CreateRole name) h n k = cc
acts_none g m c id text (asks.CreateTable name owner columns) h n k = cc
acts_none g m c id text (asks.CreateView name owner query) h n k = cc
acts_none g m c id text (asks.Grant rel privileges to) h n k = cc
acts_none g m c id text (asks.Revoke rel privileges to) h n k = cc
acts_none g m c id text (asks.GrantRole role to) h n k = cc
acts_none g m c id text (asks.RevokeRole role to) h n k = cc
acts_none g m c id text (asks.RowSecurity rel enable force) h n k = cc
acts_none g m c id text (asks.CreatePolicy p) h n k = cc
acts_none g m c id text (asks.DropPolicy rel name) h n k = cc
acts_none g m c id text (asks.Write entries) h n k = cc

-- ---- what is replied

-- what a reply tells does not hang on the machine
told_the_same : (g : Gate) (t : State) (es : List Entry) (id : Option Data) (name : Option Ask) (r : Reply)
    → reply_told (entered (record g { machine = t }) es) id name r ≡ reply_told (entered g es) id name r
told_the_same g t es id None r = refl
told_the_same g t es id (Some a) r = refl

-- the machine has answered; what the journal is to have waits for it, and the reply is told
pub IsRun-replies_to : (g : Gate) (m : ℕ) (id : Option Data) (q : Request) (name : Option Ask) (n : ℕ) (ls : List Line) (x : Gateway)
    → ls ≡ (step g.machine (in_session n q.act)).lines
    → IsAlive (replies_to (record g { machine = (step g.machine (in_session n q.act)).state }) m id q name (reply_in ls)) x
    → IsRun (replies_to g m id q name (reply_to g (in_session n q.act))) (in_session n q.act) ls x
IsRun-replies_to g m id q name n ls x l h =
    let s = (step g.machine (in_session n q.act)).state in
    let r = reply_to g (in_session n q.act) in
    let es = entries_of (next_position g) q name (reply_to g (in_session n q.act)) in
    record {
      lines = l;
      gate = subst (λ t. IsAlive (tells (entered (record g { machine = s }) es) m t) x) (told_the_same g s es id name r)
          (subst (λ (p : List Line). IsAlive (replies_to (record g { machine = s }) m id q name (reply_in p)) x) l h);
    }

-- ---- how it is shared

pub IsAlive-carries_no_room : (g : Gate) (m : ℕ) (id : Option Data) (q : Request) (name : Option Ask) (x : Gateway) → has_shape_room g q.act ≡ false
    → IsAlive (replies_to g m id q name (refused limit)) x → IsAlive (carries g m id q name) x
IsAlive-carries_no_room g m id q name x h a =
    subst (λ b. IsAlive (cond b (if_some (seat_of g.seats q.role) (replies_to g m id q name (refused no_session)) (done_in g m id q name)) (replies_to g m id q name (refused limit))) x) (sym h) a

carries_by : (g : Gate) (m : ℕ) (id : Option Data) (q : Request) (name : Option Ask) (seat : Option ℕ) (x : Gateway) → has_shape_room g q.act ≡ true → seat_of g.seats q.role ≡ seat
    → IsAlive (if_some seat (replies_to g m id q name (refused no_session)) (done_in g m id q name)) x → IsAlive (carries g m id q name) x
carries_by g m id q name seat x h e a =
    subst (λ z. IsAlive z x) (λ i. cond (sym h i) (if_some (sym e i) (replies_to g m id q name (refused no_session)) (done_in g m id q name)) (replies_to g m id q name (refused limit))) a

pub IsAlive-carries_no_session : (g : Gate) (m : ℕ) (id : Option Data) (q : Request) (name : Option Ask) (x : Gateway) → has_shape_room g q.act ≡ true → seat_of g.seats q.role ≡ None
    → IsAlive (replies_to g m id q name (refused no_session)) x → IsAlive (carries g m id q name) x
IsAlive-carries_no_session g m id q name x h e a = carries_by g m id q name None x h e a

pub IsAlive-carries : (g : Gate) (m : ℕ) (id : Option Data) (q : Request) (name : Option Ask) (n : ℕ) (x : Gateway) → has_shape_room g q.act ≡ true → seat_of g.seats q.role ≡ Some n
    → IsAlive (done_in g m id q name n) x → IsAlive (carries g m id q name) x
IsAlive-carries g m id q name n x h e a = carries_by g m id q name (Some n) x h e a

-- it is decided here
pub IsAlive-decides : (g : Gate) (m : ℕ) (id : Option Data) (q : Request) (name : Option Ask) (x : Gateway) → is_elsewhere g name ≡ false
    → IsAlive (carries g m id q name) x → IsAlive (decides g m id q name) x
IsAlive-decides g m id q name x h a = subst (λ b. IsAlive (cond b (tells g m (decided_elsewhere id name)) (carries g m id q name)) x) (sym h) a

pub IsAlive-decided_elsewhere : (g : Gate) (m : ℕ) (id : Option Data) (q : Request) (name : Option Ask) (x : Gateway) → is_elsewhere g name ≡ true
    → IsAlive (tells g m (decided_elsewhere id name)) x → IsAlive (decides g m id q name) x
IsAlive-decided_elsewhere g m id q name x h a = subst (λ b. IsAlive (cond b (tells g m (decided_elsewhere id name)) (carries g m id q name)) x) (sym h) a

-- a verdict of the code is the gateway's
pub verdict_of-IsAlive : (g : Gate) (a : Ask) (v w : code_once.Verdict) (x : Gateway) → v ≡ w → verdict_of v ≡ verdict (names_in_code x.names) a → IsAlive g x
    → verdict_of w ≡ verdict (names_of g) a
verdict_of-IsAlive g a v w x e h b = ap verdict_of (sym e) ∙ (h ∙ ap (λ n. verdict n a) b.names)

pub IsAlive-by_verdict : (g : Gate) (m : ℕ) (id : Option Data) (q : Request) (a : Ask) (v : Verdict) (x : Gateway) → v ≡ verdict (names_of g) a
    → IsAlive (by_verdict g m id q a v) x → IsAlive (by_verdict g m id q a (verdict (names_of g) a)) x
IsAlive-by_verdict g m id q a v x e b = subst (λ z. IsAlive (by_verdict g m id q a z) x) e b

-- a name is left by that number
pub IsAlive-left : (g : Gate) (m : ℕ) (id : Option Data) (number told : ℕ) (x : Gateway) → told ≡ number
    → IsAlive (tells g m (undecided id told)) x → IsAlive (tells g m (undecided id number)) x
IsAlive-left g m id number told x e a = subst (λ n. IsAlive (tells g m (undecided id n)) x) e a

-- with a name, and without
pub IsAlive-shares_plain : (g : Gate) (m : ℕ) (c : Client) (id : Option Data) (q : Request) (claim : Option Claim) (x : Gateway) → claim ≡ None
    → IsAlive (decides g m id q None) x → IsAlive (shares g m c id q claim) x
IsAlive-shares_plain g m c id q claim x e a = subst (λ k. IsAlive (shares g m c id q k) x) (sym e) a

pub IsAlive-shares_named : (g : Gate) (m : ℕ) (c : Client) (id : Option Data) (q : Request) (claim : Option Claim) (k : Claim) (a : Ask) (x : Gateway)
    → claim ≡ Some k
    → a ≡ asked_by c q.line k → IsAlive (by_verdict g m id q a (verdict (names_of g) a)) x → IsAlive (shares g m c id q claim) x
IsAlive-shares_named g m c id q claim k a x e s h =
    subst (λ z. IsAlive (shares g m c id q z) x) (sym e) (subst (λ z. IsAlive (by_verdict g m id q z (verdict (names_of g) z)) x) s h)
