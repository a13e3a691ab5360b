use Rattle.std.proofs.Common.{◌≡◌, drop, map}
use Rattle.iv_query.specs.Trees.{source_tree, join_tree}
use Rattle.iv_bind.specs.Faults.{through}
use Rattle.iv_bind.specs.Parts.{from_of}
use Rattle.iv_bind.specs.Binding.{join_bound, from_bound}
use Rattle.iv_bind.proofs.sources.all_sources.Given as goal

-- what is left to join gives behind what was joined what all of it does
abbrev pub invariant-loop-next : goal.invariant-loop-next
invariant-loop-next l = through (join_bound l.catalog) (from_of l.all) (map join_tree (drop l.next-index l.joins)) ≡ from_bound l.catalog (source_tree l.first) (map join_tree l.joins)
