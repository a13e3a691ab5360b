use Rattle.iv_access.proofs.Alike.{same_has, same_sight}
use Rattle.iv_access.proofs.laws.reach_decides.Goals as goal

pub returns-clause-has : goal.returns-clause-has
returns-clause-has c = λ r ms role alike p rel. same_has r ms role alike p rel

pub returns-clause-sees : goal.returns-clause-sees
returns-clause-sees c = λ r ms role alike table test row. same_sight r ms role alike table test row
