use Rattle.std.proofs.Common.{◌≡◌, take}
use Rattle.iv_clients.specs.Kept.{holding_owed}
use Rattle.iv_hall.specs.Listing.{walked}
use Rattle.iv_hall.proofs.slots.settle_listed.Given as goal

abbrev pub invariant-loop-number : goal.invariant-loop-number
invariant-loop-number l = l.clients.items ≡ walked (holding_owed l.text) (take l.number-index l.numbers) l.fn.clients.items
