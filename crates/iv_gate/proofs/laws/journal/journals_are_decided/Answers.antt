use Rattle.iv_gate.proofs.JournalDamage.{IsDecided-ReadsBack}
use Rattle.iv_gate.proofs.laws.journal.journals_are_decided.Goals as goal

pub returns : goal.returns
returns c = IsDecided-ReadsBack c.records_are_read_back.ensures
