use Rattle.std.proofs.Common.{map, sym, ◌∙◌}
use Rattle.iv_door.specs.Views.{fault_of}
use Rattle.iv_following.proofs.Failed.{untaken_memory, untaken_told}
use Rattle.iv_following.proofs.keeper.end_step.Goals as goal

pub returns-in-Ok-clause-fault : goal.returns-in-Ok-clause-fault
returns-in-Ok-clause-fault c = untaken_memory _ _ _ _ _ _ _ c.share_none.result c.share_none.ensures.memory

pub returns-in-Err-clause-fault : goal.returns-in-Err-clause-fault
returns-in-Err-clause-fault c =
    untaken_told c.args.means.now.log c.in-Some.log c.args.from c.args.to _ c.args.desk.now c.args.told.now.out.items c.fail.new.self.out.items
    (fault_of c.in-Err.fault) c.fail.result c.in-Some.is c.in-Err.ensures.fault c.fail.ensures
