use Rattle.std.proofs.Common.{◌≡◌, ◌++◌, take}
use Rattle.std.specs.Prelude.{flat_map, map}
use Rattle.iv_pages.specs.Figures.{counted_line}
use Rattle.iv_pages.specs.Shown.{bucket_of, labels_of}
use Rattle.iv_pages.proofs.figures.push_buckets.Given as goal

abbrev pub invariant-loop-bucket : goal.invariant-loop-bucket
invariant-loop-bucket l =
    l.out.items ≡ l.initial.out.items ++ flat_map (counted_line l.name (labels_of l.labels)) (map bucket_of (take l.bucket-index l.buckets))
