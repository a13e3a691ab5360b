use Rattle.iv_gate.proofs.RefusedNames.{le-refused_by}
use Rattle.iv_gate.proofs.laws.names.refusals_are_few.Goals as goal

pub returns : goal.returns
returns c = le-refused_by
