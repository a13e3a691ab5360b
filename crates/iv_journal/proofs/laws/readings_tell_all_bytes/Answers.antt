use Rattle.iv_journal.proofs.Told.{IsTold-IsReading}
use Rattle.iv_journal.proofs.laws.readings_tell_all_bytes.Goals as goal

pub returns : goal.returns
returns c = IsTold-IsReading
