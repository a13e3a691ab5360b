use Rattle.iv_following.proofs.Failed.{none_is_memory}
use Rattle.iv_following.proofs.telling.Told.fail.Goals as goal

pub fail_told-requires : goal.fail_told-requires
fail_told-requires c = none_is_memory c.args.fault.now c.in_default.not-Memory
