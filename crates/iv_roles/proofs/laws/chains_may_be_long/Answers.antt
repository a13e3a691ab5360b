use Rattle.iv_roles.proofs.Long.{Along-chain_of}
use Rattle.iv_roles.proofs.laws.chains_may_be_long.Goals as goal

pub returns : goal.returns
returns c = λ n role other l. (Along-chain_of n).inside role other l
