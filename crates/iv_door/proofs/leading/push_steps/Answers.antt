use Rattle.std.proofs.Common.{◌∙◌, ◌++◌, ap, sym}
use Rattle.std.proofs.lemmas.List.{take_all}
use Rattle.iv_door.specs.Leading.{lines_from}
use Rattle.iv_door.proofs.LedSteps.{steps_further}
use Rattle.iv_door.proofs.leading.push_steps.Goals as goal

pub loop-line-preserved : goal.loop-line-preserved
loop-line-preserved c =
    steps_further c.args.from c.args.lines.now c.loop-line.line-index c.line-item.result c.args.out.now.items c.loop-line.out.items _ c.loop-line.position _
    c.loop-line-test.true (sym c.line-item.is) c.loop-line.invariant.0 c.loop-line.invariant.1 c.in_ok-position.ensures.line c.in_ok-position.ensures.position

pub returns : goal.returns
returns c =
    c.loop-line.invariant.0 ∙ ap (λ z. c.args.out.now.items ++ lines_from c.args.from z) (take_all c.loop-line.line-index c.args.lines.now c.loop-line-test.false)
