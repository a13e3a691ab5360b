use Rattle.std.proofs.Common.{◌≡◌, find, not, None}
use Rattle.iv_machine.specs.Given.{count_to}
use Rattle.iv_clients.specs.Feeds.{is_begun}
use Rattle.iv_clients.proofs.feeds.next_seat.Given as goal

abbrev pub invariant-loop-place : goal.invariant-loop-place
invariant-loop-place l = find (λ n. not (is_begun l.seats n)) (count_to l.place) ≡ None
