-- Each plan has a node.
use Rattle.std.proofs.Common.{◌≤◌, arith}
use Rattle.iv_algebra.specs.Shapes.{Shape, Scan, Filter, Project, Join, Union, Distinct, Except, Group, nodes}

pub le-nodes : (a : Shape) → 1 ≤ nodes a
le-nodes (Scan t) = omega arith
le-nodes (Filter f a) = omega arith
le-nodes (Project columns a) = omega arith
le-nodes (Join a b pairs) = omega arith
le-nodes (Union a b) = omega arith
le-nodes (Distinct a) = omega arith
le-nodes (Except a b) = omega arith
le-nodes (Group keys aggs a) = omega arith
