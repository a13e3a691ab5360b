use Rattle.iv_steps.proofs.StepOutcomes.{nothing_is_told}
use Rattle.iv_steps.proofs.laws.nothing_is_told.Goals as goal

pub returns : goal.returns
returns c = nothing_is_told
