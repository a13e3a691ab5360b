use Rattle.std.proofs.Common.{subst}
use Rattle.iv_door.specs.Talk.{HearsLine, is_said, says}
use Rattle.iv_door.specs.Views.{fault_of, said_of}
use Rattle.iv_door.proofs.Talks.{failing}
use Rattle.iv_door.proofs.talk.Talk.hear_said.Goals as goal

pub returns-in-Ok-clause-heard : goal.returns-in-Ok-clause-heard
returns-in-Ok-clause-heard c =
    subst (HearsLine c.args.self.now c.args.line.now) c.in-Ok.ensures.says (is_said (said_of c.args.said) c.requires.short c.requires.said)

pub returns-in-Err-clause-fault : goal.returns-in-Err-clause-fault
returns-in-Err-clause-fault c =
    failing (HearsLine c.args.self.now c.args.line.now) (says c.args.self.now (said_of c.args.said)) (is_said (said_of c.args.said) c.requires.short c.requires.said)
    (fault_of c.in-Err.fault) c.in-Err.ensures.fault
