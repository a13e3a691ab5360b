use Rattle.std.proofs.Common.{◌≡◌, ◌++◌, map}
use Rattle.std.specs.Prelude.{flat_map}
use Rattle.std.specs.Vec.Iter.{into_iter_items}
use Rattle.iv_gate.specs.Arriving.{fact_of}
use Rattle.iv_arrivals.specs.Entering.{shape_in}
use Rattle.iv_arrivals.proofs.learning.facts_of.Given as goal

abbrev pub invariant-loop-request : goal.invariant-loop-request
invariant-loop-request l =
    (goal.iterator-loop-request).can_next l.request-iterator ×
    (goal.iterator-loop-request).is_finite l.request-iterator ×
    (map fact_of l.fn.requests.items ≡ l.facts.items ++ map fact_of (into_iter_items l.request-iterator)) ×
    (l.fn.made.items ++ flat_map shape_in l.fn.requests.items ≡ l.made.items ++ flat_map shape_in (into_iter_items l.request-iterator))
