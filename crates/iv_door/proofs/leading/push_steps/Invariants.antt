use Rattle.std.proofs.Common.{◌≡◌, ◌++◌, take}
use Rattle.iv_door.specs.Leading.{lines_from}
use Rattle.iv_door.proofs.LedSteps.{reached}
use Rattle.iv_door.proofs.leading.push_steps.Given as goal

abbrev pub invariant-loop-line : goal.invariant-loop-line
invariant-loop-line l =
    (l.out.items ≡ l.fn.out.items ++ lines_from l.fn.from (take l.line-index l.lines)) × (l.position ≡ reached l.fn.from (take l.line-index l.lines))
