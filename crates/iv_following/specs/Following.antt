-- What is done with what a keeper says, and what it is told of that.
use Rattle.std.specs.Prelude.{◌≡◌, ◌≤◌, ℕ, ◌==◌, Bool, true, false, if◌then◌else◌, List, [], ◌∷◌, ◌++◌, codes, drop, Option, Some, None}
use Rattle.serde_json.specs.Data.{object}
use Rattle.serde_json.specs.Find.{get}
use Rattle.iv_request.specs.Values.{natural}
use Rattle.iv_machine.specs.Act.{Refusal}
use Rattle.iv_lines.specs.Texts.{refused_members}
use Rattle.iv_journal.specs.Journal.{Line}
use Rattle.iv_records.specs.Journal.{journal_of, record_of}
use Rattle.iv_gate.specs.Events as event
use Rattle.iv_gate.specs.Gate.{Gate, Log}
use Rattle.iv_gate.specs.Arriving.{Step, fault_of, position, settled_at}
use Rattle.iv_gate.specs.Arriving as gate
use Rattle.iv_arrivals.specs.Reads.{step_in}
use Rattle.iv_desk.specs.Desks.{IsDesk}
use Rattle.iv_desk.specs.Front.{Front, by_event}
use Rattle.iv_desk.specs.declared.desk.Desk.{Desk}
use Rattle.iv_door.specs.Said as door
use Rattle.iv_door.specs.Answers.{Fault, decided_here, gap, no_entry, not_accepted, not_new, other_log, recalled}
use Rattle.iv_door.specs.Leading.{lines_from}
use Rattle.iv_door.specs.Talk.{Act, Hears, Talk, acts, ended, kept, led, nothing, opened, shut}
use Rattle.iv_running.specs.Logs.{HasLines, recalled_in}
use Rattle.iv_running.specs.Running.{IsFollowed, Serves}

-- a log as a keeper says it
abbrev pub said_log : Log → door.Log
said_log l = record { name = l.name; epoch = l.epoch }

-- ---- steps

-- the number by which a refusal is told, at a keeper as at a client
abbrev pub IsNumberOf : Refusal → ℕ → Type 0
IsNumberOf why n = get (codes "error") (object (refused_members why)) ≡ Some (natural n)

-- what a keeper is told of the gateway's fault of a step
abbrev pub IsToldOf : (log : Log) (from to : ℕ) → gate.Fault → Fault → Type 0
IsToldOf log from to gate.decided_here f = f ≡ decided_here to
IsToldOf log from to gate.other_log f = f ≡ other_log (said_log log)
IsToldOf log from to (gate.gap position) f = f ≡ gap to from position
IsToldOf log from to (gate.not_accepted entry why) f = (n : ℕ) × IsNumberOf why n × (f ≡ not_accepted entry to n)
IsToldOf log from to (gate.not_new name) f = f ≡ not_new name to

-- what it is told of a step that is not taken: its lines are none, or the gateway has a fault of it
pub data IsTold (log : Log) (from to : ℕ) (lines : List Line) (g : Gate) : Fault → Type 0 where
  of_lines : (line : ℕ) → step_in log from lines ≡ None → IsTold log from to lines g (no_entry line to)
  of_step : (s : Step) (why : gate.Fault) (f : Fault) → step_in log from lines ≡ Some s → fault_of g s ≡ Some why → IsToldOf log from to why f
      → IsTold log from to lines g f

-- ---- leading

-- a log that the gateway leads: up to where its keeper was told what the gateway has decided, and up to where that is in the log
pub record Lead : Type 0 where
  pub told : ℕ
  pub kept : ℕ

-- it leads from where it is: all up to there was brought by its keeper
abbrev pub IsLed : Desk → Desk → Lead → Type 0
IsLed x y a = (d : Front) → IsDesk d x → IsDesk (by_event event.led d) y
    × (d.gate.dead ≡ false → a ≡ record { told = position d.gate; kept = position d.gate })

-- no less is in the log than before, and nothing that the keeper was not told
abbrev pub IsKept : ℕ → Lead → Lead → Type 0
IsKept n a b = (a.kept ≤ n) × (n ≤ a.told) × (b ≡ record a { kept = n })

-- what the keeper is told of what the gateway has decided and the journal has not: nothing if it was told all, else steps from where that is.
-- Each is told once if it was told nothing that the journal has not: nobody decides before the journal has all that was told
abbrev pub steps_told : Gate → Lead → List ℕ
steps_told g a = if a.told == position g then [] else lines_from (settled_at g) (journal_of (drop g.kept g.entries))

-- it is told them, behind what it was to be told
abbrev pub AreTold : Gate → Lead → (was : List ℕ) → Lead → (now : List ℕ) → Type 0
AreTold g a was b now = (now ≡ was ++ steps_told g a) × (b ≡ record a { told = position g })

-- ---- acts

-- the desk, whether clients may come in, and the log that is led, if one is
pub record House : Type 0 where
  pub desk : Desk
  pub may : Bool
  pub lead : Option Lead

abbrev pub house : Desk → Bool → Option Lead → House
house desk may lead = record { desk = desk; may = may; lead = lead }

-- what an act does: the texts of a step are followed as one record; clients may come in; nobody may, and all are closed; the gateway, which has
-- led no log, leads; what it has decided is kept; else nothing
abbrev pub IsHeeded : Option Log → Act → House → House → Type 0
IsHeeded log (ended from to texts) x y = (l : Log) × (log ≡ Some l) × IsFollowed l from (record_of texts) x.desk y.desk × (y ≡ record x { desk = y.desk })
IsHeeded log opened x y = y ≡ record x { may = true }
IsHeeded log shut x y = Serves x.desk y.desk × (y ≡ record x { desk = y.desk; may = false })
IsHeeded log led x y = (x.lead ≡ None) × (a : Lead) × IsLed x.desk y.desk a × (y ≡ record x { desk = y.desk; lead = Some a })
IsHeeded log (kept n) x y = (a : Lead) × (x.lead ≡ Some a) × (b : Lead) × IsKept n a b × (y ≡ record x { lead = Some b })
IsHeeded log _ x y = y ≡ x

-- no line is there to be heard, or one was heard and heeded
abbrev pub IsHeard : Option Log → Bool → Talk → Talk → House → House → Type 0
IsHeard log false t u x y = Hears t (nothing, u) × (y ≡ x)
IsHeard log true t u x y = (a : Act) × Hears t (acts a, u) × IsHeeded log a x y

-- lines are heard and heeded, one after another, and nothing else is done
pub data HeedsAll (log : Option Log) (t : Talk) (x : House) : Talk → House → Type 0 where
  none_yet : HeedsAll log t x t x
  one_more : (is : Bool) (u v : Talk) (y z : House) → HeedsAll log t x u y → IsHeard log is u v y z → HeedsAll log t x v z

-- ---- what is told

-- a keeper is told all requests that the journal's file has, and up to where that is
pub record IsRecalled (position : ℕ) (was now : List ℕ) : Type 0 where
  pub bytes : List ℕ
  pub given : List Line
  pub lines : HasLines bytes given
  pub told : now ≡ was ++ (recalled_in given ++ (recalled position ++ 10 ∷ []))
