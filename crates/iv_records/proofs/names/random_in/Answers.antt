use Rattle.iv_records.proofs.PartsAsText.{passing-is_random}
use Rattle.iv_records.proofs.names.random_in.Goals as goal

pub returns-in_default : goal.returns-in_default
returns-in_default c = passing-is_random c.args.name.now c.in_default.ensures.cases.0
