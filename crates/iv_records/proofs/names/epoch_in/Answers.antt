use Rattle.iv_records.proofs.PartsAsText.{passing-is_epoch}
use Rattle.iv_records.proofs.names.epoch_in.Goals as goal

pub returns-in_default : goal.returns-in_default
returns-in_default c = passing-is_epoch c.args.epoch.now c.in_default.ensures.cases.0
