use Rattle.std.proofs.Common.{◌≡◌, ◌++◌, take, drop, map, option_map}
use Rattle.iv_clients.specs.Kept.{checking}
use Rattle.iv_hall.proofs.slots.check_all.Given as goal

abbrev pub invariant-loop-slot : goal.invariant-loop-slot
invariant-loop-slot l = l.slot-items ≡ map (option_map (checking l.tokens)) (take l.slot-index l.fn.clients.items) ++ drop l.slot-index l.fn.clients.items
