use Rattle.std.proofs.Common.{◌≡◌, length}
use Rattle.iv_pages.specs.Cut.{parts}
use Rattle.iv_pages.specs.Kind.{last_of}
use Rattle.iv_pages.proofs.kinds.last_part.Given as goal

abbrev pub invariant-loop-later : goal.invariant-loop-later
invariant-loop-later l = last_of (parts l.byte l.rest) ≡ last_of (parts l.byte l.text)

abbrev pub decreases-loop-later : goal.decreases-loop-later
decreases-loop-later l = length l.rest
