use Rattle.iv_journal.proofs.Readings.{HasOneReading-bytes}
use Rattle.iv_journal.proofs.laws.bytes_have_one_reading.Goals as goal

pub returns : goal.returns
returns c = HasOneReading-bytes
