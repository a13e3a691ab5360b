-- What an accepted command keeps, a run keeps.
use Rattle.std.proofs.Common.{◌≡◌, ℕ, List, [], ◌∷◌, Option, Some, None, refl}
use Rattle.iv_machine.specs.Act.{Act, Command, Refusal}
use Rattle.iv_machine.specs.State.{State}
use Rattle.iv_machine.specs.Changing.{after}
use Rattle.iv_machine.specs.Refusing.{refusal}
use Rattle.iv_machine.specs.Machine.{settled, outcome, step, run}

module _ (P : State → Type 0) (go : (s : State) (n : ℕ) (act : Act) → refusal s n act ≡ None → P s → P (settled act (after s n act))) where
  outcome_keeps : (s : State) (c : Command) (o : Option Refusal) → refusal s c.session c.act ≡ o → P s → P (outcome s c o).state
  outcome_keeps s c None h p = go s c.session c.act h p
  outcome_keeps s c (Some r) h p = p

  pub step_keeps : (s : State) (c : Command) → P s → P (step s c).state
  step_keeps s c p = outcome_keeps s c (refusal s c.session c.act) refl p

  pub run_keeps : (s : State) (cs : List Command) → P s → P (run s cs).state
  run_keeps s [] p = p
  run_keeps s (c ∷ cs) p = run_keeps (step s c).state cs (step_keeps s c p)
