-- A step as an engine takes it: the machine's step in each state behind it, or which fact is refused.
use Rattle.std.specs.Prelude.{◌≡◌, Bool, ℕ, false, true, List, None, Some}
use Rattle.std.specs.List.{AllByRecursion, list_all}
use Rattle.iv_machine.specs.Act as machine
use Rattle.iv_machine.specs.Machine.{Outcome}
use Rattle.iv_machine.specs.State.{State}
use Rattle.iv_machine.specs.Stored.{HasTexts}
use Rattle.iv_steps.specs.Steps.{Fact, first_refused, is_well_fact, shared, stepped}
use Rattle.iv_store.specs.Counting.{IsCounted, rounds_at}
use Rattle.iv_store.specs.Engine.{Engine, IsBehind}
use Rattle.iv_command.specs.Views.{refusal_of}
use Rattle.iv_engine.specs.declared.facts.StepFault.{StepFault}
use Rattle.iv_engine.specs.declared.facts.StepFault.TheVariants.{Memory, Failed, Refused}

-- the machine takes the step in the state, and sends the lines; the state that it leaves is behind the engine
pub record IsTaken (s : State) (facts : List Fact) (lines : List machine.Line) (new : Engine) : Type 0 where
  pub outcome : Outcome
  pub is : stepped facts s ≡ Some outcome
  pub told : lines ≡ outcome.lines
  pub left : IsBehind outcome.state new

-- so it is in each state behind the engine
abbrev pub TakesStep : Engine → List Fact → List machine.Line → Engine → Type 0
TakesStep e facts lines new = (s : State) → IsBehind s e → IsTaken s facts lines new

-- the machine does not take the step in the state: the first fact that is refused there is at the place, counted from 1
pub record IsRefusedAt (s : State) (facts : List Fact) (place : ℕ) (why : machine.Refusal) : Type 0 where
  pub none : stepped facts s ≡ None
  pub first : first_refused 1 facts (shared s) ≡ Some (place, why)

-- so it is in each state behind the engine, if the fault is a refusal
abbrev pub RefusesStep : Engine → List Fact → StepFault → Type 0
RefusesStep e facts Memory = Unit {0}
RefusesStep e facts Failed = Unit {0}
RefusesStep e facts (Refused place why) = (s : State) → IsBehind s e → IsRefusedAt s facts place (refusal_of why)

-- a fact that a line may give
pub record IsGivenFact (f : Fact) : Type 0 where
  pub well : is_well_fact f ≡ true
  pub texts : HasTexts f.act

-- ---- work

-- it writes rows, and does nothing else
abbrev pub is_write : machine.Act → Bool
is_write (machine.write entries) = true
is_write _ = false

abbrev pub AreWrites : List Fact → Type 0
AreWrites facts = list_all (λ f. is_write f.act) facts ≡ true

-- each open subscription has counted one round more exactly if the counts of a table have changed that it scans
abbrev pub AreCountedOnce : Engine → Engine → Type 0
AreCountedOnce old new = AllByRecursion (λ s. IsCounted old new s.rel (rounds_at old s.number) (rounds_at new s.number)) new.frame.subscriptions
