use Rattle.iv_journal.proofs.Cuts.{CutsAreFronts-take}
use Rattle.iv_journal.proofs.laws.cuts_leave_whole_records.Goals as goal

pub returns : goal.returns
returns c = CutsAreFronts-take
