use Rattle.std.proofs.Common.{◌≡◌, drop, take, option_map}
use Rattle.iv_records.specs.Cuts.{cut_at}
use Rattle.iv_records.proofs.CutPlaces.{before}
use Rattle.iv_records.proofs.cuts.cut_at.Given as goal

abbrev pub invariant-loop-at : goal.invariant-loop-at
invariant-loop-at l = option_map (before (take l.at l.bytes)) (cut_at l.byte (drop l.at l.bytes)) ≡ cut_at l.byte l.bytes
