use Rattle.std.proofs.Common.{refl}
use Rattle.tests_machine.proofs.TextValues.{texts_compute}
use Rattle.tests_machine.proofs.examples.news_is_told.Goals as goal

pub returns-clause-rows : goal.returns-clause-rows
unfolding texts_compute
returns-clause-rows c = (refl, refl)

pub returns-clause-subscription : goal.returns-clause-subscription
unfolding texts_compute
returns-clause-subscription c = ((refl, refl), refl)
