use Rattle.std.proofs.Common.{◌<◌}
use Rattle.iv_hall.specs.Hall.{is_told_at}
use Rattle.iv_hall.specs.Numbers.{AreSet}
use Rattle.iv_hall.proofs.hall.list_all.Given as goal

abbrev pub invariant-loop-number : goal.invariant-loop-number
invariant-loop-number l = AreSet (λ m. m < l.number) (is_told_at l.clients) l.fn.told l.told
