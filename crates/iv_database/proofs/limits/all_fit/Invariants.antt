use Rattle.std.proofs.Common.{take}
use Rattle.std.specs.List.{AllByRecursion}
use Rattle.iv_database.proofs.BagSizes.{IsKept}
use Rattle.iv_database.proofs.limits.all_fit.Given as goal

abbrev pub invariant-loop-change : goal.invariant-loop-change
invariant-loop-change l = AllByRecursion (IsKept l.cap l.tables) (take l.change-index l.changes)
