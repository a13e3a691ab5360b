use Rattle.iv_steps.proofs.StepOutcomes.{steps_are_told}
use Rattle.iv_steps.proofs.laws.steps_are_told.Goals as goal

pub returns : goal.returns
returns c = steps_are_told
