use Rattle.std.proofs.Common.{arith}
use Rattle.iv_algebra.specs.Shapes.{shape_of}
use Rattle.iv_bind.proofs.Nodes.{le-nodes}
use Rattle.iv_bind.proofs.binding.+after_nodes.Goals as goal

pub returns-in_err-left : goal.returns-in_err-left
returns-in_err-left t c = rw c.from_residual.ensures (λ h. c.in_err-left.ensures (omega (arith, le-nodes (shape_of c.args.plan.now))))
