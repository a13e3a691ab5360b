use Rattle.iv_head.proofs.EntryLines.{read_back}
use Rattle.iv_head.proofs.laws.what_is_written_is_read_back.Goals as goal

pub returns : goal.returns
returns c = read_back
