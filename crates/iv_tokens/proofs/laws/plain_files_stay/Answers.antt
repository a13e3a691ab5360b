use Rattle.iv_tokens.proofs.Plain.{plain_stays}
use Rattle.iv_tokens.proofs.laws.plain_files_stay.Goals as goal

pub returns : goal.returns
returns c = plain_stays
