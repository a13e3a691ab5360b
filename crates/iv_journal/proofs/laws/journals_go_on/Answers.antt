use Rattle.iv_journal.proofs.Readings.{GoesOn-lines}
use Rattle.iv_journal.proofs.laws.journals_go_on.Goals as goal

pub returns : goal.returns
returns c = GoesOn-lines
