use Rattle.std.proofs.Common.{refl}
use Rattle.iv_gate.proofs.laws.examples.steps_are_told_once.Goals as goal

pub returns-clause-given : goal.returns-clause-given
returns-clause-given c = refl

pub returns-clause-taken : goal.returns-clause-taken
returns-clause-taken c = refl

pub returns-clause-given_again : goal.returns-clause-given_again
returns-clause-given_again c = refl
