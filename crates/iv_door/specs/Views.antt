-- For contracts of the code: what its values are to the definitions.
use Rattle.std.specs.Prelude.{◌≡◌, ℕ, ◌+◌, List, ◌∷◌, ◌++◌, false, map, true, Option, None, Some}
use Rattle.iv_door.specs.Answers.{Fault, too_long, no_line, wrong_time, no_log, other_log, no_room, gap, no_entry, not_accepted, not_new, not_decided}
use Rattle.iv_door.specs.Answers.{decided_here}
use Rattle.iv_door.specs.Said as spec
use Rattle.iv_door.specs.Talk.{Act, Heard, Talk, acts, fails, has_newline, nothing, begun, gone_on, recalled, brought, ended, opened, shut, led, kept}
use Rattle.iv_door.specs.declared.said.Said.{Said}
use Rattle.iv_door.specs.declared.said.Said.TheVariants as said
use Rattle.iv_door.specs.declared.talk.Act.{Act as ActCode}
use Rattle.iv_door.specs.declared.talk.Act.TheVariants as act
use Rattle.iv_door.specs.declared.answers.Fault.{Fault as FaultCode}
use Rattle.iv_door.specs.declared.answers.Fault.TheVariants as fault

abbrev pub said_of : Said → spec.Said
said_of (said.Begin log) = spec.begins log
said_of (said.GoOn log) = spec.goes_on log
said_of said.Recall = spec.recalls
said_of (said.Bring text) = spec.brings text.items
said_of (said.End from to) = spec.ends from to
said_of said.Open = spec.opens
said_of said.Shut = spec.shuts
said_of said.Lead = spec.leads
said_of (said.Keep position) = spec.keeps position

-- a log's line
abbrev pub IsLogIn : (line front : List ℕ) → spec.Log → Type 0
IsLogIn line front l = (spec.has_form l ≡ true) × (spec.log_line front l ≡ line)

-- what is said by a line that has no parts
abbrev pub IsWord : spec.Said → Type 0
IsWord spec.recalls = Unit {0}
IsWord spec.opens = Unit {0}
IsWord spec.shuts = Unit {0}
IsWord spec.leads = Unit {0}
IsWord _ = ⊥

abbrev pub act_of : ActCode → Act
act_of act.Begun = begun
act_of act.GoneOn = gone_on
act_of act.Recall = recalled
act_of act.Brought = brought
act_of (act.Ended from to texts) = ended from to (map (λ v. v.items) texts.items)
act_of act.Opened = opened
act_of act.Shut = shut
act_of act.Led = led
act_of (act.Kept position) = kept position

-- out of memory says nothing
abbrev pub fault_of : FaultCode → Option Fault
fault_of (fault.TooLong line) = Some (too_long line)
fault_of (fault.NoLine line) = Some (no_line line)
fault_of (fault.WrongTime line) = Some (wrong_time line)
fault_of fault.NoLog = Some no_log
fault_of (fault.OtherLog log) = Some (other_log log)
fault_of fault.NoRoom = Some no_room
fault_of (fault.Gap to from position) = Some (gap to from position)
fault_of (fault.NoEntry line to) = Some (no_entry line to)
fault_of (fault.NotAccepted entry to refusal) = Some (not_accepted entry to refusal)
fault_of (fault.NotNew name to) = Some (not_new name to)
fault_of (fault.NotDecided number from to) = Some (not_decided number from to)
fault_of (fault.DecidedHere to) = Some (decided_here to)
fault_of fault.Memory = None

abbrev pub heard_of : Option ActCode → Heard
heard_of None = nothing
heard_of (Some a) = acts (act_of a)

-- it fails so; out of memory says nothing
abbrev pub IsFailingBy : (Heard × Talk → Type 0) → Option Fault → Type 0
IsFailingBy P None = Unit {0}
IsFailingBy P (Some f) = (t : Talk) × P (fails f, t)

-- the first line of what is unread is passed, if it has its end
abbrev pub IsPassed : Talk → Option (List ℕ) → Talk → Type 0
IsPassed t None u = (has_newline t.unread ≡ false) × (u ≡ t)
IsPassed t (Some line) u = (rest : List ℕ) × (t.unread ≡ line ++ 10 ∷ rest)
    × (has_newline line ≡ false) × (u ≡ record t { unread = rest; lines = t.lines + 1 })
