use Rattle.std.proofs.Common.{◌+◌, ◌*◌}
use Rattle.iv_algebra.specs.Shapes.{shape_of, nodes}
use Rattle.iv_bind.proofs.copy.+copy.Given as goal

abbrev pub decreases-copy_plan : goal.decreases-copy_plan
decreases-copy_plan l = 3 * nodes (shape_of l.plan.now)

abbrev pub decreases-copy_boxed : goal.decreases-copy_boxed
decreases-copy_boxed l = 1 + 3 * nodes (shape_of l.plan.now)

abbrev pub decreases-copy_two : goal.decreases-copy_two
decreases-copy_two l = 2 + 3 * (nodes (shape_of l.left.now) + nodes (shape_of l.right.now))
