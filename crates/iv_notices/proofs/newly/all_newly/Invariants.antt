use Rattle.std.proofs.Common.{◌≡◌, map, take}
use Rattle.iv_notices.specs.Newly.{newly_in}
use Rattle.iv_notices.proofs.newly.all_newly.Given as goal

abbrev pub invariant-loop-one : goal.invariant-loop-one
invariant-loop-one l = l.all.items ≡ map (newly_in l.engine.frame) (take l.one-index l.before)
