use Rattle.std.proofs.Common.{◌≡◌, take}
use Rattle.iv_clients.specs.Kept.{releasing}
use Rattle.iv_hall.specs.Listing.{walked}
use Rattle.iv_hall.proofs.slots.release_listed.Given as goal

abbrev pub invariant-loop-number : goal.invariant-loop-number
invariant-loop-number l = l.clients.items ≡ walked (releasing) (take l.number-index l.numbers) l.fn.clients.items
