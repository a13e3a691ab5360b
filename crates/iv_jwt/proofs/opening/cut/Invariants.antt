use Rattle.std.proofs.Common.{◌≡◌, drop, take, option_map}
use Rattle.iv_jwt.specs.Tokens.{cut}
use Rattle.iv_jwt.proofs.Cuts.{ahead}
use Rattle.iv_jwt.proofs.opening.cut.Given as goal

abbrev pub invariant-loop-at : goal.invariant-loop-at
invariant-loop-at l = option_map (ahead (take l.at l.bytes)) (cut (drop l.at l.bytes)) ≡ cut l.bytes
