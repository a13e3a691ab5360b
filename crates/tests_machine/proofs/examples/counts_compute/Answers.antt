use Rattle.std.proofs.Common.{refl}
use Rattle.tests_machine.proofs.TextValues.{texts_compute}
use Rattle.tests_machine.proofs.examples.counts_compute.Goals as goal

pub returns-clause-view : goal.returns-clause-view
unfolding texts_compute
returns-clause-view c = refl

pub returns-clause-further_view : goal.returns-clause-further_view
unfolding texts_compute
returns-clause-further_view c = refl

pub returns-clause-policy : goal.returns-clause-policy
unfolding texts_compute
returns-clause-policy c = refl

pub returns-clause-further_policy : goal.returns-clause-further_policy
unfolding texts_compute
returns-clause-further_policy c = refl
