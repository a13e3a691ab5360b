use Rattle.std.proofs.Common.{◌∙◌}
use Rattle.iv_door.specs.Views as door
use Rattle.iv_following.proofs.ToldSteps.{told_lines, told_step}
use Rattle.iv_following.proofs.steps.take_step.Goals as goal

pub returns-in-Ok-clause-fault : goal.returns-in-Ok-clause-fault
returns-in-Ok-clause-fault c = λ d s a.
    told_lines c.args.log.now c.in_ok-followed.followed c.args.from c.args.to c.in-Ok.line _ c.deref.result.now d.gate c.in_ok-followed.ensures
    (c.deref.ensures.value ∙ c.in_ok-lines.ensures) (c.in-Ok-false.ensures.none c.in-Ok-false.field-0-test).0

pub returns-clause-fault : goal.returns-clause-fault
returns-clause-fault c = λ d s a.
    told_step c.args.log.now c.in_ok-followed.followed c.args.from c.args.to _ c.deref.result.now d.gate c.in-Err.fault (door.fault_of c.fault_of.result)
    c.in_ok-followed.ensures (c.deref.ensures.value ∙ c.in_ok-lines.ensures) (c.in-Err.ensures.fault d s a) (λ step. c.fault_of.ensures.told step d.gate) c.fault_of.ensures.memory
