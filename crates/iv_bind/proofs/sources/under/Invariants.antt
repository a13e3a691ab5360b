use Rattle.std.proofs.Common.{◌≡◌, take}
use Rattle.iv_bind.specs.Binding.{under}
use Rattle.iv_bind.proofs.sources.under.Given as goal

abbrev pub invariant-loop-column : goal.invariant-loop-column
invariant-loop-column l = l.scope.items ≡ under l.source (take l.column-index l.columns)
