-- The entries lead a machine with nothing to where the gateway is; so does what a crash leaves of them.
use Rattle.std.proofs.Common.{◌≡◌, ℕ, Bool, true, false, cond, ◌||◌, List, [], ◌∷◌, ◌++◌, drop, take, map, Option, Some, None, is_some, refl, ap, ◌∙◌, sym, subst, append-nil}
use Rattle.std.specs.Prelude.{◌&&◌, option_and_then}
use Rattle.std.proofs.lemmas.Bool.{false≢true}
use Rattle.std.proofs.lemmas.List.{take-append-drop}
use Rattle.serde_json.specs.Data.{Data}
use Rattle.iv_rows.specs.Options.{if_some}
use Rattle.iv_machine.specs.Act.{Command, Reply, refused}
use Rattle.iv_machine.specs.Machine.{Outcome, step}
use Rattle.iv_machine.specs.State.{State, start}
use Rattle.iv_once.specs.Names.{Ask}
use Rattle.iv_steps.specs.Steps.{Fact, all_carried, carried, shared, stepped}
use Rattle.iv_clients.specs.Clients.{Shown, at_client, saying}
use Rattle.iv_records.specs.Journal.{Entry, Request, is_shared}
use Rattle.iv_records.specs.Laws.{ReadsBack}
use Rattle.iv_clients.specs.Tokens.{Token}
use Rattle.iv_journal.specs.Journal.{Line}
use Rattle.iv_gate.specs.Arriving.{Step, entry_of, fact_of, fault_of, was_taken, landed, takes}
use Rattle.iv_gate.specs.Events.{Event, presented, message, gone, known, ticked, synced, handed, arrived, forgave, failed, happens, next, led}
use Rattle.iv_gate.specs.Gate.{Gate, Head, answering, done_in, in_session, is_accepted, ran, replies_to, reply_in, next_position}
use Rattle.iv_gate.specs.Laws.{CrashesAreSafe, LeadsBack}
use Rattle.iv_gate.specs.Replies.{ActsAs}
use Rattle.iv_gate.specs.Restoring.{LeadOn, Restores, gate_at_start}
use Rattle.iv_gate.specs.Runs.{Runs, begins, goes_on, begins_again}
use Rattle.iv_gate.proofs.StepsTaken.{IsBegun-all_carried}
use Rattle.iv_gate.proofs.SoundRequests.{ActsAs-seat_of}
use Rattle.iv_gate.proofs.AddedEntries.{IsBooked, Texts}
use Rattle.iv_gate.proofs.JournalDamage.{all_carried-append, facts_of-append, facts_of, Leads-LeadOn, led_to}
use Rattle.iv_gate.proofs.TextsAndDisk.{IsFront-take, IsWritten-Runs, IsFront-take_take}
use Rattle.iv_gate.proofs.SoundRuns.{Starts, IsSoundGate-Runs}
use Rattle.iv_gate.proofs.RequestsAlone.{SameShared-step, state-refused, carried-fact_of, shared-SameShared}
use Rattle.iv_gate.proofs.SoundCommands.{Adds, IsSoundGate, Sounds}
use Rattle.iv_gate.proofs.StepRelations.{Keeps, Steps, came_keeps, request_of, said_keeps, went_keeps}

-- the entries lead a machine with nothing to all that is shared in the state
abbrev LeadTo : (cap : ℕ) → List Entry → State → Type 0
LeadTo cap es s = all_carried (facts_of es) (start cap) ≡ Some (shared s)

abbrev pub IsLed : ℕ → Gate → Type 0
IsLed cap g = LeadTo cap g.entries g.machine

-- ---- one entry more

facts_one : (e : Entry) → facts_of (e ∷ []) ≡ map fact_of e.requests
facts_one e = ap (map fact_of) (append-nil e.requests)

entry_more : (cap : ℕ) (es : List Entry) (e : Entry) (s t : State) → all_carried (map fact_of e.requests) (shared s) ≡ Some (shared t) → LeadTo cap es s → LeadTo cap (es ++ e ∷ []) t
entry_more cap es e s t h l =
    ap (λ fs. all_carried fs (start cap)) (facts_of-append es (e ∷ []) ∙ ap (λ fs. facts_of es ++ fs) (facts_one e))
    ∙ (all_carried-append (start cap) (facts_of es) (map fact_of e.requests) ∙ (ap (option_and_then (all_carried (map fact_of e.requests))) l ∙ h))

none_more : (cap : ℕ) (es : List Entry) (s t : State) → shared s ≡ shared t → LeadTo cap es s → LeadTo cap (es ++ []) t
none_more cap es s t same l = ap (λ z. all_carried (facts_of z) (start cap)) (append-nil es) ∙ (l ∙ ap Some same)

one_carried : (f : Fact) (s t : State) → carried f s ≡ Some t → all_carried (f ∷ []) s ≡ Some t
one_carried f s t h = ap (option_and_then (all_carried [])) h

-- a request that is done, by its reply
requests_led : (cap : ℕ) (g : Gate) (m : ℕ) (id : Option Data) (q : Request) (name : Option Ask) (n : ℕ) → ActsAs g.machine n q.role → is_shared q.act ≡ true → IsLed cap g
    → IsLed cap (done_in g m id q name n)
requests_led cap g m id q name n acts x l = by (is_shared q.act) x (is_accepted (reply_in behind.lines)) refl name
  where
    behind : Outcome
    behind = step g.machine (in_session n q.act)

    entry : Bool → Option Ask → Entry
    entry y o = record { requests = cond y (q ∷ []) []; names = answering o (reply_in behind.lines); position = next_position g }

    stays : is_accepted (reply_in behind.lines) ≡ false → shared g.machine ≡ shared behind.state
    stays y = ap shared (sym (state-refused g.machine (in_session n q.act) y))

    by : (s : Bool) → s ≡ true → (y : Bool) → is_accepted (reply_in behind.lines) ≡ y → (o : Option Ask) → LeadTo cap (g.entries ++ cond (s && (y || is_some o)) (entry y o ∷ []) []) behind.state
    by false h y e o = absurd (false≢true h)
    by true h true e o =
        entry_more cap g.entries (entry true o) g.machine behind.state
        (one_carried (fact_of q) (shared g.machine) (shared behind.state) (carried-fact_of g.machine n q acts x e)) l
    by true h false e None = none_more cap g.entries g.machine behind.state (stays e) l
    by true h false e (Some a) = entry_more cap g.entries (entry false (Some a)) g.machine behind.state (ap Some (stays e)) l

-- a name that is refused
refused_led : (cap : ℕ) (g : Gate) (m : ℕ) (id : Option Data) (q : Request) (a : Ask) (r : Reply) → is_accepted r ≡ false → IsLed cap g → IsLed cap (replies_to g m id q (Some a) r)
refused_led cap g m id q a r h l = by (is_shared q.act) (is_accepted r) h
  where
    by : (s y : Bool) → y ≡ false → LeadTo cap (g.entries ++ cond (s && (y || true)) (record { requests = cond y (q ∷ []) []; names = answering (Some a) r; position = next_position g } ∷ []) []) g.machine
    by s true e = absurd (false≢true (sym e))
    by false false e = none_more cap g.entries g.machine g.machine refl l
    by true false e = entry_more cap g.entries (record { requests = []; names = answering (Some a) r; position = next_position g }) g.machine g.machine refl l

-- ---- each step

ran_led : (cap : ℕ) (g : Gate) (k : Command) → is_shared k.act ≡ false → IsLed cap g → IsLed cap (ran g k)
ran_led cap g k h l = l ∙ ap Some (sym (shared-SameShared (step g.machine k).state g.machine (SameShared-step g.machine k h)))

led_kit : (cap m : ℕ) → Steps m (Keeps (IsLed cap))
led_kit cap m = record {
  same = λ g l. l;
  chain = λ g h i x y l. y (x l);
  run = λ g k e l. ran_led cap g k e l;
  settle = λ g l. l;
  tell = λ g t _ l. l;
  seat = λ g seats l. l;
  feed = λ g feeds l. l;
  follow = λ g k l. l;
  move = λ g t k l. l;
  close = λ g own l. l;
}

landed_led : Sounds → (cap : ℕ) (g : Gate) (s : Step) (o : Outcome) → stepped (map fact_of s.requests) g.machine ≡ Some o → IsSoundGate g → IsLed cap g → IsLed cap (landed g (entry_of s) o)
landed_led sounds cap g s o h b l = entry_more cap g.entries (entry_of s) g.machine o.state (sounds.told (map fact_of s.requests) g.machine o b.state h).shared l

takes_led : Sounds → (cap : ℕ) (g : Gate) (s : Step) → IsSoundGate g → IsLed cap g → IsLed cap (takes g s)
takes_led sounds cap g s b l = by (is_some (fault_of g s)) (was_taken g s) (stepped (map fact_of s.requests) g.machine) refl
  where
    by : (d p : Bool) (o : Option Outcome) → stepped (map fact_of s.requests) g.machine ≡ o → IsLed cap (cond d (record g { dead = true }) (cond p g (if_some o g (landed g (entry_of s)))))
    by true p o e = l
    by false true o e = l
    by false false None e = l
    by false false (Some o) e = landed_led sounds cap g s o e b l

happens_led : Sounds → (cap : ℕ) (g : Gate) (e : Event) → IsSoundGate g → IsLed cap g → IsLed cap (happens g e)
happens_led sounds cap g (presented m token) b l = came_keeps (IsLed cap) (led_kit cap) g m token (λ h t e x. x) l
happens_led sounds cap g (message m text) b l = said_keeps (IsLed cap) (led_kit cap) g m text (λ c e. record {
  says = λ x. x;
  answers = λ h x. x;
  asks = λ id act name n t shared seat x. requests_led cap (record g { clients = at_client m (saying text) g.clients }) m id (request_of c text act) name n
      (ActsAs-seat_of g b c.role n seat) shared x;
  refuses = λ id act a r t shared x. refused_led cap (record g { clients = at_client m (saying text) g.clients }) m id (request_of c text act) a (refused r) refl x;
}) l
happens_led sounds cap g (gone m) b l = went_keeps (IsLed cap) (led_kit cap) g m (λ x. x) l
happens_led sounds cap g (known tokens) b l = l
happens_led sounds cap g ticked b l = l
happens_led sounds cap g synced b l = l
happens_led sounds cap g (handed m) b l = l
happens_led sounds cap g (arrived s) b l = takes_led sounds cap g s b l
happens_led sounds cap g led b l = l
happens_led sounds cap g forgave b l = l
happens_led sounds cap g failed b l = l

next_led : Sounds → (cap : ℕ) (g : Gate) (e : Event) → IsSoundGate g → IsLed cap g → IsLed cap (next g e)
next_led sounds cap g e b l = by g.dead
  where
    by : (t : Bool) → IsLed cap (cond t g (happens g e))
    by true = l
    by false = happens_led sounds cap g e b l

-- ---- runs

restored_led : Starts → Sounds → (cap : ℕ) (tokens : List Token) (most : ℕ) (head : Head) (sent : List Shown) (journal : List Line) (h : Gate)
    → Restores (gate_at_start cap tokens most head sent) journal h → IsLed cap h
restored_led starts sounds cap tokens most head sent journal h r =
    let b = IsBegun-all_carried sounds cap (starts cap) (facts_of h.entries) r.leads.state r.leads.accepted in
    let quiet : r.leads.state ≡ shared r.leads.state = (λ i. record r.leads.state { frame = record r.leads.state.frame { sessions = b.sessions i; subscriptions = b.subscriptions i; last = b.last i } }) in
    r.leads.accepted ∙ ap Some (quiet ∙ ap (λ (x : Gate). shared x.machine) (sym r.leads.gate))

pub IsLed-Runs : Adds → Starts → Sounds → (cap : ℕ) (g : Gate) → Runs cap g → IsLed cap g
IsLed-Runs adds starts sounds cap _ (begins tokens most head journal g r) = restored_led starts sounds cap tokens most head [] journal g r
IsLed-Runs adds starts sounds cap _ (goes_on g e w r) =
    next_led sounds cap g e (IsSoundGate-Runs adds starts sounds cap g r) (IsLed-Runs adds starts sounds cap g r)
IsLed-Runs adds starts sounds cap _ (begins_again g disk tokens most h r l x) = restored_led starts sounds cap tokens most g.head g.sent disk h x

pub LeadsBack-Runs : Adds → Starts → Sounds → (cap : ℕ) (g : Gate) → Runs cap g → LeadsBack cap g
LeadsBack-Runs adds starts sounds cap g r = IsLed-Runs adds starts sounds cap g r

-- ---- crashes

is_safe : (cap : ℕ) (g : Gate) → IsBooked g → IsLed cap g → CrashesAreSafe cap g
is_safe cap g b h disk tokens most l =
    let begun = gate_at_start cap tokens most g.head g.sent in
    let on : LeadOn begun (take l.0 g.entries ++ drop l.0 g.entries) (led_to begun (take l.0 g.entries ++ drop l.0 g.entries) (shared g.machine)) =
    subst (λ es. LeadOn begun es (led_to begun es (shared g.machine))) (sym (take-append-drop l.0 g.entries))
    (record { state = shared g.machine; well = b.well; accepted = h; names = b.names; steps = b.steps; gate = refl }) in
    let x = Leads-LeadOn begun (led_to begun (take l.0 g.entries ++ drop l.0 g.entries) (shared g.machine)) (take l.0 g.entries) (drop l.0 g.entries) on in (
      led_to begun (take l.0 g.entries) x.state,
      record { all = l.2; leads = x.on },
      IsFront-take_take g.kept l.0 g.entries l.1,
      IsFront-take l.0 g.entries,
    )

pub CrashesAreSafe-Runs : ReadsBack → Texts → Adds → Starts → Sounds → (cap : ℕ) (g : Gate) → Runs cap g → CrashesAreSafe cap g
CrashesAreSafe-Runs reads texts adds starts sounds cap g r = is_safe cap g (IsWritten-Runs reads texts cap g r).booked (IsLed-Runs adds starts sounds cap g r)
