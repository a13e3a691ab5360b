use Rattle.iv_door.specs.Views.{fault_of}
use Rattle.iv_following.specs.Failing.{not_heeded}
use Rattle.iv_following.proofs.Failed.{unheard_said}
use Rattle.iv_following.proofs.keeper.Keeper.hear_line.Goals as goal

pub returns-in-Err-clause-fault : goal.returns-in-Err-clause-fault
returns-in-Err-clause-fault c =
    unheard_said c.args.means.now.log c.args.self.now.talk _ c.args.self.now.told.out.items c.fail.new.self.out.items (fault_of c.in-Err.fault) c.fail.result
    c.in-Err.ensures.fault c.fail.ensures

pub returns-in-Err-heed-clause-fault : goal.returns-in-Err-heed-clause-fault
returns-in-Err-heed-clause-fault c =
    let heard = rw c.in-Ok-Some.field-0-is at c.in-Ok-Some.ensures.heard in
    not_heeded _ _ _ _ _ heard c.in-Err-heed.ensures.fault
