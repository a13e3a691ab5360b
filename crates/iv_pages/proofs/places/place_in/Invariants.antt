use Rattle.std.proofs.Common.{◌≡◌, length}
use Rattle.iv_pages.specs.Cut.{parts}
use Rattle.iv_pages.specs.Place.{place_in}
use Rattle.iv_pages.proofs.PathSegments.{placed}
use Rattle.iv_pages.proofs.places.place_in.Given as goal

abbrev pub invariant-loop-segment : goal.invariant-loop-segment
invariant-loop-segment l = placed l.place.items (place_in (parts 47 l.rest)) ≡ place_in (parts 47 l.path)

abbrev pub decreases-loop-segment : goal.decreases-loop-segment
decreases-loop-segment l = length l.rest
