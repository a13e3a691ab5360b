use Rattle.std.proofs.Common.{◌≡◌, drop, map}
use Rattle.iv_query.specs.Trees.{item_tree}
use Rattle.iv_bind.specs.Binding.{first_aggregate}
use Rattle.iv_bind.proofs.items.first_aggregate.Given as goal

abbrev pub invariant-loop-item : goal.invariant-loop-item
invariant-loop-item l = first_aggregate (map item_tree l.items) ≡ first_aggregate (map item_tree (drop l.item-index l.items))
