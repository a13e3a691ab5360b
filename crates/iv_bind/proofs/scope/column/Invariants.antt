use Rattle.std.proofs.Common.{◌≡◌, ◌++◌, drop}
use Rattle.std.specs.Prelude.{option_to_list}
use Rattle.iv_query.specs.Trees.{column_tree}
use Rattle.iv_bind.specs.Binding.{meant}
use Rattle.iv_bind.proofs.scope.column.Given as goal

-- what was found and what is meant behind it is all that is meant
abbrev pub invariant-loop-place : goal.invariant-loop-place
invariant-loop-place l = meant (column_tree l.column) 0 l.scope ≡ option_to_list l.found ++ meant (column_tree l.column) l.place (drop l.place l.scope)
