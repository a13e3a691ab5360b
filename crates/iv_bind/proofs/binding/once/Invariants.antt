use Rattle.std.proofs.Common.{◌≡◌, [], drop}
use Rattle.iv_bind.specs.Catalogs.{numbers}
use Rattle.iv_bind.specs.Binding.{once}
use Rattle.iv_bind.proofs.binding.once.Given as goal

-- what is left to take gives behind what was taken what all of it does
abbrev pub invariant-loop-rel : goal.invariant-loop-rel
invariant-loop-rel l = once (numbers l.list.items) (numbers (drop l.rel-index l.reached)) ≡ once [] (numbers l.reached)
