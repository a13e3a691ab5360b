use Rattle.std.proofs.Common.{refl}
use Rattle.tests_machine.proofs.TextValues.{texts_compute}
use Rattle.tests_machine.proofs.examples.counts_come_late.Goals as goal

pub returns-clause-query : goal.returns-clause-query
unfolding texts_compute
returns-clause-query c = refl

pub returns-clause-using : goal.returns-clause-using
unfolding texts_compute
returns-clause-using c = refl
