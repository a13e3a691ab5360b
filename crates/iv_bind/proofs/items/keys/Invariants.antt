use Rattle.std.proofs.Common.{◌≡◌, ◌++◌, [], ◌∷◌, drop, map, Ok}
use Rattle.std.specs.Prelude.{◌==◌, if◌then◌else◌}
use Rattle.iv_zset.specs.Bags.{stands}
use Rattle.iv_query.specs.Trees.{column_tree}
use Rattle.iv_bind.specs.Faults.{◌>>=◌, through}
use Rattle.iv_bind.specs.Binding.{column_bound, keys_bound}
use Rattle.iv_bind.proofs.items.keys.Given as goal

-- what is left to take gives behind what was taken what all of it does
abbrev pub invariant-loop-text : goal.invariant-loop-text
invariant-loop-text l = through (λ keys c. column_bound l.scope c >>= λ x. Ok (if stands ◌==◌ x.0 keys then keys else keys ++ x.0 ∷ [])) l.keys.items (map column_tree (drop l.text-index l.group)) ≡ keys_bound l.scope (map column_tree l.group)
