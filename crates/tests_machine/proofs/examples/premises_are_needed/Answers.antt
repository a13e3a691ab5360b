use Rattle.std.proofs.Common.{refl}
use Rattle.tests_machine.proofs.TextValues.{texts_compute}
use Rattle.tests_machine.proofs.examples.premises_are_needed.Goals as goal

pub returns-clause-frame : goal.returns-clause-frame
unfolding texts_compute
returns-clause-frame c = ((refl, refl), (refl, refl), (refl, refl), (refl, refl))

pub returns-clause-before : goal.returns-clause-before
unfolding texts_compute
returns-clause-before c = (refl, (refl, refl), refl, (refl, refl))

pub returns-clause-later : goal.returns-clause-later
unfolding texts_compute
returns-clause-later c = (refl, (refl, refl), (refl, refl), (refl, refl))

pub returns-clause-answered : goal.returns-clause-answered
unfolding texts_compute
returns-clause-answered c = (refl, (refl, refl), (refl, refl), (refl, refl))
