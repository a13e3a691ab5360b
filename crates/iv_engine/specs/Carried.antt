-- What private functions promise of facts that are carried out, each in a session of its own.
use Rattle.std.specs.Prelude.{◌≡◌, List, [], None, Some, Result, Ok, Err, map}
use Rattle.std.specs.Global.{Vec}
use Rattle.iv_machine.specs.State.{State}
use Rattle.iv_steps.specs.Steps.{Fact, all_carried, carried, fact_refusal, first_refused}
use Rattle.iv_store.specs.Answering.{seen}
use Rattle.iv_store.specs.Engine.{IsBehind}
use Rattle.iv_store.specs.Store.{IsSoundStore, Store}
use Rattle.iv_command.specs.Views.{line_of, refusal_of}
use Rattle.iv_command.specs.declared.command.Line.{Line}
use Rattle.iv_command.specs.declared.stop.Stop.{Stop}
use Rattle.iv_command.specs.declared.stop.Stop.TheVariants as stop
use Rattle.iv_engine.specs.Stepped.{IsRefusedAt, TakesStep}
use Rattle.iv_engine.specs.declared.facts.StepFault.{StepFault}
use Rattle.iv_engine.specs.declared.facts.StepFault.TheVariants.{Memory, Failed, Refused}

-- nobody is there
pub record IsEmpty (e : Store) : Type 0 where
  pub sessions : e.sessions ≡ []
  pub subscriptions : e.subscriptions ≡ []
  pub last : e.last ≡ 0

-- the fact is accepted in the state, and the state that it leaves is behind the store
pub record IsCarriedTo (s : State) (f : Fact) (new : Store) : Type 0 where
  pub state : State
  pub is : carried f s ≡ Some state
  pub accepted : fact_refusal f s ≡ None
  pub behind : IsBehind state (seen new)

-- what is left is sound, and nobody is there
pub record IsStillEmpty (new : Store) : Type 0 where
  pub sound : IsSoundStore new
  pub empty : IsEmpty new

-- what comes of a fact in each state behind the store
abbrev pub IsCarried : Store → Fact → Result Unit Stop → Store → Type 0
IsCarried e f (Ok u) new = IsStillEmpty new × ((s : State) → IsBehind s (seen e) → IsCarriedTo s f new)
IsCarried e f (Err (stop.Refused r)) new = (s : State) → IsBehind s (seen e) → (carried f s ≡ None) × (fact_refusal f s ≡ Some (refusal_of r))
IsCarried e f (Err stop.Memory) new = Unit {0}

-- the same of many
pub record AreCarriedTo (s : State) (facts : List Fact) (new : Store) : Type 0 where
  pub state : State
  pub is : all_carried facts s ≡ Some state
  pub behind : IsBehind state (seen new)

abbrev pub AreCarried : Store → List Fact → Result Unit StepFault → Store → Type 0
AreCarried e facts (Ok u) new = IsStillEmpty new × ((s : State) → IsBehind s (seen e) → AreCarriedTo s facts new)
AreCarried e facts (Err (Refused n r)) new =
    (s : State) → IsBehind s (seen e) → (all_carried facts s ≡ None) × (first_refused 1 facts s ≡ Some (n, refusal_of r))
AreCarried e facts (Err Memory) new = Unit {0}
AreCarried e facts (Err Failed) new = ⊥

-- the step of a store
abbrev pub IsTakenIn : Store → List Fact → Result (Vec Line) StepFault → Store → Type 0
IsTakenIn e facts (Ok lines) new = IsSoundStore new × TakesStep (seen e) facts (map line_of lines.items) (seen new)
IsTakenIn e facts (Err (Refused n r)) new = (s : State) → IsBehind s (seen e) → IsRefusedAt s facts n (refusal_of r)
IsTakenIn e facts (Err Memory) new = Unit {0}
IsTakenIn e facts (Err Failed) new = ⊥
