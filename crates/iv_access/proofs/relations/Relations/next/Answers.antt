use Rattle.std.proofs.Common.{arith}
use Rattle.iv_access.proofs.RelationCounts.{length-le-128}
use Rattle.iv_access.proofs.relations.Relations.next.Goals as goal

pub overflow_cast-result : goal.overflow_cast-result
overflow_cast-result c =
    let len = c.len.ensures.len in
    let most = length-le-128 c.self.inside.kinds.entries c.self.invariant.0 c.self.invariant.1 in
    omega (arith, len, most)
