use Rattle.iv_tokens.proofs.KnownAtSecond.{all_known}
use Rattle.iv_tokens.proofs.laws.all_are_known.Goals as goal

pub returns : goal.returns
returns c = all_known
