use Rattle.std.proofs.Common.{◌≡◌, None, replicate}
use Rattle.iv_hall.proofs.slots.empty_slots.Given as goal

abbrev pub invariant-loop : goal.invariant-loop
invariant-loop l = l.slots.items ≡ replicate l.counter None
