use Rattle.std.proofs.Common.{◌≡◌, ◌++◌, take, drop, map, option_map}
use Rattle.iv_clients.specs.Kept.{holding_beat}
use Rattle.iv_hall.proofs.slots.beat_all.Given as goal

abbrev pub invariant-loop-slot : goal.invariant-loop-slot
invariant-loop-slot l = l.slot-items ≡ map (option_map (holding_beat l.text)) (take l.slot-index l.fn.clients.items) ++ drop l.slot-index l.fn.clients.items
