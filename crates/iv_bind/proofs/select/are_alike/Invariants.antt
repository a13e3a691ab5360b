use Rattle.std.proofs.Common.{◌≡◌, drop}
use Rattle.iv_rows.specs.Columns.{kinds_of}
use Rattle.iv_algebra.specs.Fits.{kinds_eq}
use Rattle.iv_bind.proofs.select.are_alike.Given as goal

abbrev pub invariant-loop-place : goal.invariant-loop-place
invariant-loop-place l = kinds_eq (kinds_of l.a) (kinds_of l.b) ≡ kinds_eq (kinds_of (drop l.place l.a)) (kinds_of (drop l.place l.b))
