-- What stands behind the program's desk at all times.
use Rattle.std.specs.Prelude.{◌≡◌, ℕ, Bool, false, true, List, [], nat_le, None, Some}
use Rattle.iv_journal.specs.Journal.{Line}
use Rattle.iv_gate.specs.Arriving.{Step, fault_of, position}
use Rattle.iv_gate.specs.Events.{Event, arrived, forgave, synced, ticked}
use Rattle.iv_arrivals.specs.Reads.{step_in}
use Rattle.iv_clients.specs.Tokens.{Token}
use Rattle.iv_gate.specs.Gate.{Gate, Head, Log}
use Rattle.iv_gate.specs.Restoring.{gate_at_start}
use Rattle.iv_gateway.specs.Arriving.{IsFaultOf}
use Rattle.iv_gateway.specs.declared.arriving.StepFault.{StepFault}
use Rattle.iv_gateway.specs.declared.arriving.StepFault.TheVariants.{Memory}
use Rattle.iv_desk.specs.Front.{Front, FrontRuns, GoesOn, by_event, front_at_start}
use Rattle.iv_desk.specs.Desks.{IsDesk, IsRestored}
use Rattle.iv_desk.specs.declared.desk.Desk.{Desk}

-- a front to which some run leads stands behind the desk
pub record IsRunning (cap : ℕ) (x : Desk) : Type 0 where
  pub front : Front
  pub runs : FrontRuns cap front
  pub stands : IsDesk front x

-- a front has gone on, by what may happen, to one that stands behind the desk
pub record HasCome (may : Front → Event → Bool) (d : Front) (x : Desk) : Type 0 where
  pub front : Front
  pub goes_on : GoesOn may d front
  pub stands : IsDesk front x

-- the second desk comes of the first: what has gone on to the first has gone on to the second
abbrev pub LeadsBy : (Front → Event → Bool) → Desk → Desk → Type 0
LeadsBy may x y = (d : Front) → HasCome may d x → HasCome may d y

-- by whatever happens
abbrev pub anything : Front → Event → Bool
anything d e = true

abbrev pub Leads : Desk → Desk → Type 0
Leads x y = LeadsBy anything x y

-- by what happens to sockets, by which tokens are known, and by failures: no other event of the gateway alone has to be one that may happen
abbrev pub Serves : Desk → Desk → Type 0
Serves x y = (may : Front → Event → Bool) → LeadsBy may x y

-- as `Serves`, and by a sync at what stands behind the first
abbrev pub Keeps : Desk → Desk → Type 0
Keeps x y = (may : Front → Event → Bool) → ((d : Front) → IsDesk d x → d.gate.dead ≡ false → may d synced ≡ true) → LeadsBy may x y

-- as `Serves`, and by syncs where all that was decided is in the log, which has it up to a position
abbrev pub KeepsTo : ℕ → Desk → Desk → Type 0
KeepsTo n x y = (may : Front → Event → Bool) → ((d : Front) → nat_le (position d.gate) n ≡ true → may d synced ≡ true) → LeadsBy may x y

-- what a gateway does by itself, as time passes and what is pending is kept: it neither begins to lead a log nor takes a step
abbrev pub is_own : Event → Bool
is_own synced = true
is_own ticked = true
is_own forgave = true
is_own e = false

-- as `Serves`, and by these
abbrev pub PassesTime : Desk → Desk → Type 0
PassesTime x y = (may : Front → Event → Bool) → ((d : Front) (e : Event) → is_own e ≡ true → may d e ≡ true) → LeadsBy may x y

-- if a run has led to the first, one leads to the second
abbrev pub RunsLeadOn : Type 0
RunsLeadOn = (may : Front → Event → Bool) (cap : ℕ) (x y : Desk) → IsRunning cap x → LeadsBy may x y → IsRunning cap y

-- the lines are a step of the log from a position, the gateway has no fault of it, and that is what arrives
pub record IsFollowed (log : Log) (from : ℕ) (lines : List Line) (x y : Desk) : Type 0 where
  pub step : Step
  pub is : step_in log from lines ≡ Some step
  pub taken : (d : Front) → IsDesk d x → d.gate.dead ≡ false → fault_of d.gate step ≡ None
  pub arrives : (d : Front) → IsDesk d x → IsDesk (by_event (arrived step) d) y

-- it is not taken, since the gateway has this fault of it, or memory was refused
abbrev pub IsUntaken : Log → ℕ → List Line → Gate → StepFault → Type 0
IsUntaken log from lines g Memory = Unit {0}
IsUntaken log from lines g fault = (s : Step) × (step_in log from lines ≡ Some s) × IsFaultOf g s fault

-- nobody came yet, and nothing happened: these tokens are known, and the journal says this at its head
pub record IsNew (cap : ℕ) (tokens : List Token) (head : Head) (x : Desk) : Type 0 where
  pub most : ℕ
  pub places : ℕ
  pub stands : IsDesk (front_at_start (gate_at_start cap tokens most head []) places) x

-- nobody came yet, and the journal has led there
pub record IsBack (cap : ℕ) (tokens : List Token) (head : Head) (journal : List Line) (x : Desk) : Type 0 where
  pub most : ℕ
  pub places : ℕ
  pub back : IsRestored (front_at_start (gate_at_start cap tokens most head []) places) journal x

-- bytes that wait for the journal, beyond which no further socket is read in a round
abbrev pub most_told : ℕ
most_told = 16777216
