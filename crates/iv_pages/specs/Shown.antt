-- For contracts of the code: labels as names and values, buckets as bounds and counts.
use Rattle.std.specs.Prelude.{List, map}
use Rattle.iv_pages.specs.declared.figures.Bucket.{Bucket}
use Rattle.iv_pages.specs.declared.figures.Label.{Label}
use Rattle.iv_pages.specs.Figures.{Counted, Labelled}

abbrev pub label_of : Label → Labelled
label_of l = (l.name.now, l.value.now)

abbrev pub labels_of : List Label → List Labelled
labels_of ls = map label_of ls

abbrev pub bucket_of : Bucket → Counted
bucket_of b = (b.bound.now, b.count)
