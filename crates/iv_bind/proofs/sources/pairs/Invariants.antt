use Rattle.std.proofs.Common.{◌≡◌, ◌++◌, [], ◌∷◌, drop, map, Ok}
use Rattle.iv_query.specs.Trees.{pair_tree}
use Rattle.iv_bind.specs.Faults.{◌>>=◌, through}
use Rattle.iv_bind.specs.Binding.{pair_bound, pairs_bound}
use Rattle.iv_bind.proofs.sources.pairs.Given as goal

-- what is left to take gives behind what was taken what all of it does
abbrev pub invariant-loop-text : goal.invariant-loop-text
invariant-loop-text l = through (λ pairs p. pair_bound l.n l.scope p >>= λ pair. Ok (pairs ++ pair ∷ [])) l.pairs.items (map pair_tree (drop l.text-index l.on)) ≡ pairs_bound l.n l.scope (map pair_tree l.on)
