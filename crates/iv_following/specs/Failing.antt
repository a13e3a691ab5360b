-- What a keeper is told of what is not taken of it, what becomes of the desk, and how the program ends.
use Rattle.std.specs.Prelude.{◌≡◌, ℕ, false, true, List, [], ◌∷◌, ◌++◌, Option, Some, None, is_some}
use Rattle.iv_records.specs.Journal.{record_of}
use Rattle.iv_gate.specs.Gate.{Log}
use Rattle.iv_desk.specs.Front.{Front}
use Rattle.iv_desk.specs.Desks.{IsDesk}
use Rattle.iv_desk.specs.declared.desk.Desk.{Desk}
use Rattle.iv_door.specs.Answers.{Fault, fault_line, not_decided}
use Rattle.iv_door.specs.Talk.{Act, Hears, Talk, acts, ended, fails, kept, led, recalled, shut}
use Rattle.iv_running.specs.Running.{Leads, Serves}
use Rattle.iv_running.specs.declared.fault.Fault.{Fault as End}
use Rattle.iv_running.specs.declared.fault.Fault.TheVariants as ends
use Rattle.iv_following.specs.Following.{HeedsAll, House, IsTold, Lead}

-- a keeper is told of this behind what it was to be told
abbrev pub IsLineTold : Fault → (was now : List ℕ) → Type 0
IsLineTold f was now = now ≡ was ++ (fault_line f ++ 10 ∷ [])

-- the program ends: at `Log` once the keeper is told why; else since memory was refused, of which nothing is told
abbrev pub IsFailed : End → Option Fault → (was now : List ℕ) → Type 0
IsFailed ends.Log (Some f) was now = IsLineTold f was now
IsFailed ends.Log None was now = ⊥
IsFailed ends.Memory o was now = Unit {0}
IsFailed _ o was now = ⊥

-- it is told why a step is not taken, by whatever stands behind the desk
pub record IsToldWhy (log : Option Log) (from to : ℕ) (texts : List (List ℕ)) (x : Desk) (was now : List ℕ) : Type 0 where
  pub followed : Log
  pub fault : Fault
  pub is : log ≡ Some followed
  pub why : (d : Front) → IsDesk d x → d.gate.dead ≡ false → IsTold followed from to (record_of texts) d.gate fault
  pub told : IsLineTold fault was now

-- a step is not taken: the keeper is told why, no log is followed, or memory was refused
abbrev pub IsUntaken : Option Log → (from to : ℕ) → List (List ℕ) → Desk → (was now : List ℕ) → End → Type 0
IsUntaken log from to texts x was now ends.Log = IsToldWhy log from to texts x was now
IsUntaken log from to texts x was now ends.Desk = log ≡ None
IsUntaken log from to texts x was now ends.Memory = Unit {0}
IsUntaken log from to texts x was now _ = ⊥

-- the journal is not read, or memory was refused
abbrev pub IsUnread : End → Type 0
IsUnread ends.Journal = Unit {0}
IsUnread ends.Memory = Unit {0}
IsUnread _ = ⊥

-- what is said to be in the log cannot be: the keeper is told so, no log is led, or memory was refused
abbrev pub IsUnkept : ℕ → Option Lead → (was now : List ℕ) → End → Type 0
IsUnkept n lead was now ends.Log = (a : Lead) × (lead ≡ Some a) × IsLineTold (not_decided n a.kept a.told) was now
IsUnkept n lead was now ends.Desk = lead ≡ None
IsUnkept n lead was now ends.Memory = Unit {0}
IsUnkept n lead was now _ = ⊥

-- the gateway leads the log already
abbrev pub IsUnled : Option Lead → End → Type 0
IsUnled lead ends.Desk = is_some lead ≡ true
IsUnled lead _ = ⊥

-- an act is not carried out: a step, of which the desk may have some; a recall, which changes nothing there; that nobody may come in, which nobody
-- may any more all the same; that the gateway leads, or that the log has what was decided, which changes nothing. No other act fails
abbrev pub IsUnheeded : Option Log → Act → House → (was : List ℕ) → End → House → (now : List ℕ) → Type 0
IsUnheeded log (ended from to texts) x was end y now =
    Leads x.desk y.desk × (y ≡ record x { desk = y.desk }) × IsUntaken log from to texts x.desk was now end
IsUnheeded log recalled x was end y now = (y ≡ x) × IsUnread end
IsUnheeded log (kept n) x was end y now = (y ≡ x) × IsUnkept n x.lead was now end
IsUnheeded log led x was end y now = (y ≡ x) × (now ≡ was) × IsUnled x.lead end
IsUnheeded log shut x was end y now = Serves x.desk y.desk × (y ≡ record x { desk = y.desk; may = false }) × (now ≡ was)
IsUnheeded log _ x was end y now = ⊥

-- no line is heard, since memory was refused; since what is said cannot be, which the keeper is told; or it is heard, and not carried out
pub data IsUnheard (log : Option Log) (t : Talk) (x : House) (was : List ℕ) : End → House → List ℕ → Type 0 where
  no_memory : (now : List ℕ) → IsUnheard log t x was ends.Memory x now
  cannot_be : (f : Fault) (u : Talk) (now : List ℕ) → Hears t (fails f, u) → IsLineTold f was now → IsUnheard log t x was ends.Log x now
  not_heeded : (a : Act) (u : Talk) (end : End) (y : House) (now : List ℕ) → Hears t (acts a, u) → IsUnheeded log a x was end y now
      → IsUnheard log t x was end y now

-- lines are heard and heeded until one is not
pub record IsBroken (log : Option Log) (t : Talk) (x : House) (end : End) (y : House) (now : List ℕ) : Type 0 where
  pub talk : Talk
  pub house : House
  pub was : List ℕ
  pub heeds : HeedsAll log t x talk house
  pub breaks : IsUnheard log talk house was end y now
