use Rattle.std.proofs.Common.{take}
use Rattle.iv_hall.specs.Numbers.{HasGainedAll}
use Rattle.iv_hall.proofs.numbers.Numbers.insert_all.Given as goal

abbrev pub invariant-loop-number : goal.invariant-loop-number
invariant-loop-number l = HasGainedAll (take l.number-index l.numbers) l.fn.self l.self
