use Rattle.std.proofs.Common.{◌≡◌, drop}
use Rattle.std.specs.List.{list_all}
use Rattle.iv_pages.specs.Place.{is_plain}
use Rattle.iv_pages.proofs.places.all_plain.Given as goal

abbrev pub invariant-loop-at : goal.invariant-loop-at
invariant-loop-at l = list_all is_plain (drop l.at l.bytes) ≡ list_all is_plain l.bytes
