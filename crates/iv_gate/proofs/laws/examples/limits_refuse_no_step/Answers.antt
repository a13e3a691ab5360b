use Rattle.std.proofs.Common.{refl}
use Rattle.iv_gate.proofs.QueryTexts.{texts_compute}
use Rattle.iv_gate.proofs.laws.examples.limits_refuse_no_step.Goals as goal

pub returns : goal.returns
unfolding texts_compute
returns c = refl
