use Rattle.iv_hall.proofs.Calls.{IsHall-new}
use Rattle.iv_hall.proofs.WaitingBytes.{AreCounted-replicate}
use Rattle.iv_hall.proofs.hall.Hall.new.Goals as goal

pub invariant_of-result : goal.invariant_of-result
invariant_of-result c = (
  rw c.new-3.ensures.items (IsHall-new c.args.most _ _ _ c.in_ok-slots.ensures c.in_ok-owed.ensures c.in_ok-told.ensures),
  AreCounted-replicate c.args.most _ 0 c.in_ok-slots.ensures,
)
