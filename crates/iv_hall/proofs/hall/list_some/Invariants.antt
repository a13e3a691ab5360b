use Rattle.std.proofs.Common.{take}
use Rattle.std.specs.List.{Contains}
use Rattle.iv_hall.specs.Hall.{is_told_at}
use Rattle.iv_hall.specs.Numbers.{AreSet}
use Rattle.iv_hall.proofs.hall.list_some.Given as goal

abbrev pub invariant-loop-number : goal.invariant-loop-number
invariant-loop-number l = AreSet (Contains (take l.number-index l.numbers)) (is_told_at l.clients) l.fn.told l.told
