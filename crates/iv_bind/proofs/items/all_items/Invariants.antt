use Rattle.std.proofs.Common.{◌≡◌, drop, map}
use Rattle.iv_query.specs.Trees.{item_tree, ItemsOf}
use Rattle.iv_bind.specs.Faults.{through}
use Rattle.iv_bind.specs.Parts.{out_of}
use Rattle.iv_bind.specs.Binding.{item_bound, list_bound}
use Rattle.iv_bind.proofs.items.all_items.Given as goal

-- what is left to take gives behind what was taken what all of it does
abbrev pub invariant-loop-next : goal.invariant-loop-next
invariant-loop-next l = through (item_bound l.scope l.keys) (out_of l.out) (map item_tree (drop l.next-index l.items)) ≡ list_bound l.scope l.keys (ItemsOf (map item_tree l.items))
