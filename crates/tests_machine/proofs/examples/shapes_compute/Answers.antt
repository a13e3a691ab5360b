use Rattle.std.proofs.Common.{refl}
use Rattle.iv_rows.specs.Names.{reserved}
use Rattle.tests_machine.proofs.examples.shapes_compute.Goals as goal

pub returns-clause-example : goal.returns-clause-example
unfolding reserved
returns-clause-example c = refl

pub returns-clause-good : goal.returns-clause-good
unfolding reserved
returns-clause-good c = refl

pub returns-clause-bad : goal.returns-clause-bad
unfolding reserved
returns-clause-bad c = refl

pub returns-clause-first_session : goal.returns-clause-first_session
unfolding reserved
returns-clause-first_session c = refl

pub returns-clause-last_session : goal.returns-clause-last_session
unfolding reserved
returns-clause-last_session c = refl
