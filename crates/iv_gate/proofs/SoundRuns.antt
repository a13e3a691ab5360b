-- Whatever happens, over restarts, clients are in step with what their feeds show.
use Rattle.std.proofs.Common.{◌≡◌, ℕ, List, [], Option, Some, None, refl, false, length, ap, ◌∙◌, sym, subst, arith}
use Rattle.std.specs.Prelude.{◌+◌, option_and_then}
use Rattle.iv_access.specs.Rights.{Name}
use Rattle.iv_machine.specs.Sound.{IsSoundState}
use Rattle.iv_machine.specs.State.{start}
use Rattle.iv_clients.specs.Clients.{Client, Shown, client_at, told}
use Rattle.iv_clients.specs.Feeds.{seat_of}
use Rattle.iv_clients.specs.Tokens.{Token}
use Rattle.iv_clients.proofs.Slots.{not_client_at-replicate, not_None-Some}
use Rattle.iv_gate.specs.Gate.{Gate, Head}
use Rattle.iv_gate.specs.Events.{Event}
use Rattle.iv_gate.specs.Replies.{ActsAs, AreReplied, IsAnswered, IsClient, replies}
use Rattle.iv_gate.specs.Restoring.{Restores, gate_at_start}
use Rattle.iv_gate.specs.Runs.{Runs, begins, goes_on, begins_again}
use Rattle.iv_gate.specs.Seen.{AreOver, SeesViews}
use Rattle.iv_gate.proofs.ClientAnswers.{Came, IsSettled, Came-next, is_own-not_followed_by, Came-IsAnswered, Came-IsSettled}
use Rattle.iv_gate.proofs.StepsTaken.{IsBegun-all_carried}
use Rattle.iv_gate.proofs.SoundRequests.{ActsAs-seat_of}
use Rattle.iv_gate.proofs.JournalDamage.{facts_of}
use Rattle.iv_gate.proofs.MachineReplies.{AreReplied-IsKept}
use Rattle.iv_gate.proofs.NamedReplies.{AreNew}
use Rattle.iv_gate.proofs.SessionRoom.{IsKept, IsKept-next, IsKept-Restores}
use Rattle.iv_gate.proofs.ClientViews.{AddsToView-IsSoundGate, hindrance-IsSoundGate}
use Rattle.iv_gate.proofs.SoundEvents.{AreEven, IsSoundGate-next}
use Rattle.iv_gate.proofs.SoundCommands.{Adds, IsSoundGate, Sounds}
use Rattle.iv_journal.specs.Journal.{Line}

abbrev pub Starts : Type 0
Starts = (cap : ℕ) → IsSoundState (start cap)

pub option_and_then-Some : {X Y : Type 0} (o : Option X) (f : X → Option Y) (y : Y) (P : Type 0) → option_and_then f o ≡ Some y
    → ((x : X) → o ≡ Some x → f x ≡ Some y → P) → P
option_and_then-Some None f y P h k = absurd (not_None-Some y (sym h))
option_and_then-Some (Some x) f y P h k = k x refl h

restored_sound : Starts → Sounds → (cap : ℕ) (tokens : List Token) (most : ℕ) (head : Head) (sent : List Shown) (journal : List Line) (g : Gate) → Restores (gate_at_start cap tokens most head sent) journal g → IsSoundGate g
restored_sound starts sounds cap tokens most head sent journal g r = subst IsSoundGate (sym r.leads.gate) (record {
  state = (IsBegun-all_carried sounds cap (starts cap) (facts_of g.entries) r.leads.state r.leads.accepted).sound;
  seats = tt;
  feeds = tt;
  clients = λ m c h live. absurd (not_client_at-replicate most m c h);
})

-- not_client_at-replicate is there at first
pub not_client_at-Restores : (cap : ℕ) (tokens : List Token) (most : ℕ) (head : Head) (sent : List Shown) (journal : List Line) (g : Gate) → Restores (gate_at_start cap tokens most head sent) journal g → (m : ℕ) (c : Client)
    → client_at g.clients m ≡ Some c → ⊥
not_client_at-Restores cap tokens most head sent journal g r m c h =
    not_client_at-replicate most m c (ap (λ (x : Gate). client_at x.clients m) (sym r.leads.gate) ∙ h)

-- what holds of each client, by what happens to it
pub Came-Runs : (P : Client → Type 0) → Came P → (cap : ℕ) (g : Gate) → Runs cap g → (m : ℕ) (c : Client) → IsClient g m c → P c
Came-Runs P k cap _ (begins tokens most head journal g r) m c x = absurd (not_client_at-Restores cap tokens most head [] journal g r m c x.there)
Came-Runs P k cap _ (goes_on h e w r) m c x = Came-next P k h e (Came-Runs P k cap h r) m c x
Came-Runs P k cap _ (begins_again h disk tokens most i r l y) m c x = absurd (not_client_at-Restores cap tokens most h.head h.sent disk i y m c x.there)

pub AreEven-Runs : (cap : ℕ) (g : Gate) → Runs cap g → AreEven g
AreEven-Runs cap g r m c x = even (length (replies (told c))) (length c.messages) (Came-Runs IsAnswered Came-IsAnswered cap g r m c x).each
  where
    even : (n k : ℕ) → n ≡ 2 + k → n ≡ k + 2
    even n k e = omega (arith, e)

pub IsSoundGate-Runs : Adds → Starts → Sounds → (cap : ℕ) (g : Gate) → Runs cap g → IsSoundGate g
IsSoundGate-Runs adds starts sounds cap _ (begins tokens most head journal g r) = restored_sound starts sounds cap tokens most head [] journal g r
IsSoundGate-Runs adds starts sounds cap _ (goes_on h e w r) =
    IsSoundGate-next adds sounds h e (AreEven-Runs cap h r) (IsSoundGate-Runs adds starts sounds cap h r)
IsSoundGate-Runs adds starts sounds cap _ (begins_again h disk tokens most i r l x) = restored_sound starts sounds cap tokens most h.head h.sent disk i x

pub IsKept-Runs : Adds → Starts → Sounds → (cap : ℕ) (g : Gate) → Runs cap g → IsKept g
IsKept-Runs adds starts sounds cap _ (begins tokens most head journal g r) = IsKept-Restores sounds cap (starts cap) tokens most head [] journal g r
IsKept-Runs adds starts sounds cap _ (goes_on h e w r) = IsKept-next adds sounds h e (AreEven-Runs cap h r) (IsSoundGate-Runs adds starts sounds cap h r) (IsKept-Runs adds starts sounds cap h r)
IsKept-Runs adds starts sounds cap _ (begins_again h disk tokens most i r l x) = IsKept-Restores sounds cap (starts cap) tokens most h.head h.sent disk i x

pub AreReplied-Runs : Adds → Starts → Sounds → (cap : ℕ) (g : Gate) (e : Event) → Runs cap g → AreNew g → g.dead ≡ false → AreReplied g e
AreReplied-Runs adds starts sounds cap g e r new live =
    AreReplied-IsKept sounds g e (IsSoundGate-Runs adds starts sounds cap g r) (IsKept-Runs adds starts sounds cap g r) new live

pub SeesViews-Runs : Adds → Starts → Sounds → (cap : ℕ) (g : Gate) → Runs cap g → SeesViews g
SeesViews-Runs adds starts sounds cap g r m c own k x h =
    let b = IsSoundGate-Runs adds starts sounds cap g r in let v = AddsToView-IsSoundGate g b m c own k x h in
    record { asked = v.asked; follows = v.follows; reads = hindrance-IsSoundGate g b m c own k x h; sum = v.sum }

pub ActsAs-Runs : Adds → Starts → Sounds → (cap : ℕ) (g : Gate) (role : Name) (n : ℕ) → Runs cap g → seat_of g.seats role ≡ Some n → ActsAs g.machine n role
ActsAs-Runs adds starts sounds cap g role n r h = ActsAs-seat_of g (IsSoundGate-Runs adds starts sounds cap g r) role n h

-- a number that follows nothing is over
pub AreOver-Runs : Adds → Starts → Sounds → (cap : ℕ) (g : Gate) → Runs cap g → AreOver g
AreOver-Runs adds starts sounds cap g r m c id own columns x k h =
    let n = is_own-not_followed_by c.subs own h in
    ((Came-Runs IsSettled Came-IsSettled cap g r m c x).1 id own columns k n, λ e q. ((IsSoundGate-Runs adds starts sounds cap g r).clients m c x.there x.stays).spent own n e q)

pub IsAnswered-Runs : (cap : ℕ) (g : Gate) (m : ℕ) (c : Client) → Runs cap g → IsClient g m c → IsAnswered c
IsAnswered-Runs cap g m c r x = Came-Runs IsAnswered Came-IsAnswered cap g r m c x
