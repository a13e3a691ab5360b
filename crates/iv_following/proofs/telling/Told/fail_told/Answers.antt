use Rattle.iv_door.specs.Views.{fault_of}
use Rattle.iv_following.proofs.Failed.{failed_at_log}
use Rattle.iv_following.proofs.telling.Told.fail_told.Goals as goal

pub returns-in-Ok-say : goal.returns-in-Ok-say
returns-in-Ok-say c = failed_at_log (fault_of c.args.fault.now) c.args.self.now.out.items c.push_fault.new.self.out.items c.requires c.in-Ok.ensures
