use Rattle.std.proofs.Common.{◌≡◌, drop, take, option_map}
use Rattle.iv_pages.specs.Cut.{cut_at}
use Rattle.iv_pages.proofs.Cuts.{ahead}
use Rattle.iv_pages.proofs.cutting.cut_at.Given as goal

abbrev pub invariant-loop-at : goal.invariant-loop-at
invariant-loop-at l = option_map (ahead (take l.at l.bytes)) (cut_at l.byte (drop l.at l.bytes)) ≡ cut_at l.byte l.bytes
