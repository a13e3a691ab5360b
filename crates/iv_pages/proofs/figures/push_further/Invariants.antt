use Rattle.std.proofs.Common.{◌≡◌, ◌++◌, take}
use Rattle.iv_pages.specs.Figures.{further_labels}
use Rattle.iv_pages.specs.Shown.{labels_of}
use Rattle.iv_pages.proofs.figures.push_further.Given as goal

abbrev pub invariant-loop-label : goal.invariant-loop-label
invariant-loop-label l = l.out.items ≡ l.initial.out.items ++ further_labels (labels_of (take l.label-index l.labels))
