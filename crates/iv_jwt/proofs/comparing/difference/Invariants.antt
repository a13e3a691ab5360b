use Rattle.std.proofs.Common.{◌≡◌, drop}
use Rattle.iv_jwt.specs.Same.{difference}
use Rattle.iv_jwt.proofs.comparing.difference.Given as goal

abbrev pub invariant-loop-at : goal.invariant-loop-at
invariant-loop-at l = difference l.found (drop l.at l.a) (drop l.at l.b) ≡ difference 0 l.a l.b
