use Rattle.iv_audit.proofs.JournalCuts.{CutsAreFronts-take}
use Rattle.iv_audit.proofs.laws.cuts_leave_records.Goals as goal

pub returns : goal.returns
returns c = CutsAreFronts-take c.cuts_leave_whole_records.ensures
