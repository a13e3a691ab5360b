use Rattle.tests_machine.proofs.ManyCopies.{Computes-batch, Computes-copies_limit, Computes-no_sums, Computes-sums_limit}
use Rattle.tests_machine.proofs.examples.many_copies_compute.Goals as goal

pub returns-clause-copies_limit : goal.returns-clause-copies_limit
returns-clause-copies_limit c = Computes-copies_limit

pub returns-clause-no_sums : goal.returns-clause-no_sums
returns-clause-no_sums c = Computes-no_sums

pub returns-clause-sums_limit : goal.returns-clause-sums_limit
returns-clause-sums_limit c = Computes-sums_limit

pub returns-clause-batch : goal.returns-clause-batch
returns-clause-batch c = Computes-batch
