use Rattle.iv_tokens.proofs.Valid.{none_behind}
use Rattle.iv_tokens.proofs.laws.none_is_valid_behind_its_end.Goals as goal

pub returns : goal.returns
returns c = none_behind
