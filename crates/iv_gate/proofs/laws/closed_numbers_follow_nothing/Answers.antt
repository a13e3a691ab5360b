use Rattle.iv_gate.proofs.ClosedNumbers.{StaysClosed-Runs}
use Rattle.iv_gate.proofs.laws.closed_numbers_follow_nothing.Goals as goal

pub returns : goal.returns
returns c = StaysClosed-Runs
