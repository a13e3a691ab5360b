use Rattle.std.proofs.Common.{◌≡◌, drop, false, take, option_map}
use Rattle.iv_records.specs.Cuts.{cut_quote}
use Rattle.iv_records.proofs.CutPlaces.{before}
use Rattle.iv_records.proofs.cuts.cut_quote.Given as goal

abbrev pub invariant-loop-at : goal.invariant-loop-at
invariant-loop-at l = option_map (before (take l.at l.bytes)) (cut_quote l.escaped (drop l.at l.bytes)) ≡ cut_quote false l.bytes
