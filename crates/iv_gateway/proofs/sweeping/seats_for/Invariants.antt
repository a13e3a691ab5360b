use Rattle.std.proofs.Common.{◌≡◌, take}
use Rattle.std.specs.Prelude.{filter}
use Rattle.iv_clients.specs.Feeds.{is_of_role}
use Rattle.iv_gateway.proofs.sweeping.seats_for.Given as goal

abbrev pub invariant-loop-seat : goal.invariant-loop-seat
invariant-loop-seat l = l.found.items ≡ filter (is_of_role l.role) (take l.seat-index l.seats)
