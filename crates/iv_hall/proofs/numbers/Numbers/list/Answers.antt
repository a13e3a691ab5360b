use Rattle.iv_hall.proofs.NumberPlaces.{IsDistinct-IsOrder}
use Rattle.iv_hall.proofs.numbers.Numbers.list.Goals as goal

pub returns-clause-once : goal.returns-clause-once
returns-clause-once c = rw c.deref.ensures.value (IsDistinct-IsOrder c.self.inside.order.items c.self.inside.places.items c.self.inside.count c.self.invariant.1
    c.self.invariant.0)
