use Rattle.std.proofs.Common.{◌≡◌, take, map}
use Rattle.iv_command.specs.Views.{line_of}
use Rattle.iv_clients.specs.Kept.{keeping_on}
use Rattle.iv_hall.specs.Listing.{walked}
use Rattle.iv_hall.proofs.slots.stay_listed.Given as goal

abbrev pub invariant-loop-number : goal.invariant-loop-number
invariant-loop-number l = l.clients.items ≡ walked (keeping_on (map line_of l.lines)) (take l.number-index l.numbers) l.fn.clients.items
