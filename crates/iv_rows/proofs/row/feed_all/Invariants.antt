use Rattle.std.proofs.Common.{◌≡◌, take}
use Rattle.std.specs.List.{fold}
use Rattle.iv_rows.specs.Fed.{row_fed}
use Rattle.iv_rows.specs.View.{cells_of}
use Rattle.iv_rows.proofs.row.feed_all.Given as goal

abbrev pub invariant-loop-value : goal.invariant-loop-value
invariant-loop-value g l = l.state ≡ fold g.H.Hasher.write l.initial.state (row_fed (cells_of (take l.value-index l.values)))
