use Rattle.std.proofs.Common.{refl}
use Rattle.tests_machine.proofs.TextValues.{texts_compute}
use Rattle.tests_machine.proofs.examples.views_and_grants_compute.Goals as goal

pub returns-clause-reader_needs_every_relation : goal.returns-clause-reader_needs_every_relation
unfolding texts_compute
returns-clause-reader_needs_every_relation c = refl

pub returns-clause-views_are_not_tables : goal.returns-clause-views_are_not_tables
unfolding texts_compute
returns-clause-views_are_not_tables c = refl

pub returns-clause-refusals_in_order : goal.returns-clause-refusals_in_order
unfolding texts_compute
returns-clause-refusals_in_order c = refl
