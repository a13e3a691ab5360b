use Rattle.iv_door.specs.Talk.{acts}
use Rattle.iv_door.specs.Views.{act_of, fault_of}
use Rattle.iv_door.proofs.Talks.{failing_line, heard_line}
use Rattle.iv_door.proofs.talk.Talk.hear_passed.Goals as goal

pub returns-in-Ok-clause-heard : goal.returns-in-Ok-clause-heard
returns-in-Ok-clause-heard c = λ t p. heard_line t c.args.self.now c.args.line.now (acts (act_of c.in-Ok.act), c.hear_line.new.self) p c.in-Ok.ensures.heard

pub returns-in-Err-clause-fault : goal.returns-in-Err-clause-fault
returns-in-Err-clause-fault c = λ t p. failing_line t c.args.self.now c.args.line.now p (fault_of c.in-Err.fault) c.in-Err.ensures.fault
