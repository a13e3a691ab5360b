use Rattle.iv_jwt.proofs.GrantedTokens.{judged_granted}
use Rattle.iv_jwt.proofs.laws.judged_is_granted.Goals as goal

pub returns : goal.returns
returns c = judged_granted
