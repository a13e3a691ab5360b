use Rattle.iv_records.proofs.EntryRecords.{reads_back}
use Rattle.iv_records.proofs.laws.records_are_read_back.Goals as goal

pub returns : goal.returns
returns c = reads_back
