-- For contracts of the code: a step that comes, and why one is not taken.
use Rattle.std.specs.Prelude.{◌≡◌, ℕ, Bool, not, List, [], ◌∷◌, map, Some, None}
use Rattle.iv_command.specs.Views.{refusal_of}
use Rattle.iv_machine.specs.Act.{Line}
use Rattle.iv_machine.specs.Machine.{Outcome}
use Rattle.iv_once.specs.Names as once
use Rattle.iv_steps.specs.Steps.{Fact, first_refused, shared, stepped}
use Rattle.iv_gate.specs.Arriving.{Step, decided_here, entry_of, fact_of, fault_of, first_known, gap, was_taken, landed, not_accepted, not_new, other_log}
use Rattle.iv_gate.specs.Gate.{Gate, entered, known_of, shape_text}
use Rattle.iv_gateway.specs.Views.{IsAlive}
use Rattle.iv_gateway.specs.declared.arriving.StepFault.{StepFault}
use Rattle.iv_gateway.specs.declared.arriving.StepFault.TheVariants as fault
use Rattle.iv_gateway.specs.declared.gateway.Gateway.{Gateway}

-- the step is taken, or was before
pub record IsTakenBy (g : Gate) (s : Step) (is : Bool) : Type 0 where
  pub none : fault_of g s ≡ None
  pub new : is ≡ not (was_taken g s)

-- why it is not; where memory was refused, or the gateway was dead, nothing is said of it
abbrev pub IsFaultOf : Gate → Step → StepFault → Type 0
IsFaultOf g s fault.Led = fault_of g s ≡ Some decided_here
IsFaultOf g s fault.OtherLog = fault_of g s ≡ Some other_log
IsFaultOf g s (fault.Gap position) = fault_of g s ≡ Some (gap position)
IsFaultOf g s (fault.NotAccepted request why) = fault_of g s ≡ Some (not_accepted request (refusal_of why))
IsFaultOf g s (fault.NotNew name) = fault_of g s ≡ Some (not_new name)
IsFaultOf g s fault.Memory = Unit {0}
IsFaultOf g s fault.Dead = Unit {0}

-- ---- within

-- the journal is to have the step, whose names are new
pub record IsEntered (g : Gate) (s : Step) (made : List ℕ) (x : Gateway) : Type 0 where
  pub new : first_known 1 s.names (known_of g) ≡ None
  pub makes : made ≡ shape_text (entry_of s ∷ [])
  pub gate : IsAlive (entered g (entry_of s ∷ [])) x

-- the machine has taken facts, and told the lines; nobody has heard yet
pub record IsCarried (g : Gate) (facts : List Fact) (ls : List Line) (x : Gateway) : Type 0 where
  pub outcome : Outcome
  pub is : stepped facts g.machine ≡ Some outcome
  pub lines : ls ≡ outcome.lines
  pub gate : IsAlive (record g { machine = outcome.state }) x

-- which fact is refused, if one is
abbrev pub IsRefusedBy : Gate → List Fact → StepFault → Type 0
IsRefusedBy g facts (fault.NotAccepted request why) = first_refused 1 facts (shared g.machine) ≡ Some (request, refusal_of why)
IsRefusedBy g facts fault.Memory = Unit {0}
IsRefusedBy g facts _ = ⊥

-- it is carried out whole
pub record IsLanded (g : Gate) (s : Step) (x : Gateway) : Type 0 where
  pub new : first_known 1 s.names (known_of g) ≡ None
  pub accepted : first_refused 1 (map fact_of s.requests) (shared g.machine) ≡ None
  pub outcome : Outcome
  pub is : stepped (map fact_of s.requests) g.machine ≡ Some outcome
  pub gate : IsAlive (landed g (entry_of s) outcome) x

-- or a name of it is not new, or a request of it is refused
abbrev pub IsNotLanded : Gate → Step → StepFault → Type 0
IsNotLanded g s (fault.NotNew name) = first_known 1 s.names (known_of g) ≡ Some (not_new name)
IsNotLanded g s (fault.NotAccepted request why) = (first_known 1 s.names (known_of g) ≡ None)
    × (first_refused 1 (map fact_of s.requests) (shared g.machine) ≡ Some (request, refusal_of why))
IsNotLanded g s fault.Memory = Unit {0}
IsNotLanded g s _ = ⊥
