use Rattle.std.proofs.Common.{◌∙◌, ap, refl}
use Rattle.iv_clients.specs.Clients.{at_all}
use Rattle.iv_clients.specs.Kept.{releasing}
use Rattle.iv_hall.proofs.Calls.{IsHall-fail, walked-releasing, IsHall-releasing}
use Rattle.iv_hall.proofs.WaitingBytes.{AreCounted-releasing, AreCounted-none}
use Rattle.iv_hall.proofs.hall.Hall.release.Goals as goal

pub invariant_of-self : goal.invariant_of-self
invariant_of-self c = (
  IsHall-releasing c.self.inside.most c.self.inside.slots.items _ c.self.inside.owed c.self.inside.told c.self.inside.readers.items c.self.invariant.0
      (c.in-Ok.ensures ∙ walked-releasing c.self.inside.slots.items c.self.inside.most c.self.inside.owed c.self.inside.told c.self.inside.readers.items
      c.list.result.now c.self.invariant.0 c.list.ensures.list c.list.ensures.once),
  AreCounted-releasing 0 c.self.inside.slots.items _
      (c.in-Ok.ensures ∙ walked-releasing c.self.inside.slots.items c.self.inside.most c.self.inside.owed c.self.inside.told
      c.self.inside.readers.items c.list.result.now c.self.invariant.0 c.list.ensures.list c.list.ensures.once),
)

pub invariant_of-self-in-Err : goal.invariant_of-self-in-Err
invariant_of-self-in-Err c = (
  IsHall-fail c.self.inside.most c.self.inside.slots.items _ c.self.inside.owed c.self.inside.owed _ c.self.inside.told _ c.self.inside.readers.items _
      c.self.invariant.0 refl c.lose.ensures.owed c.lose.ensures.told c.lose.ensures.readers c.lose.ensures.clients,
  AreCounted-none _ c.self.inside.waiting c.lose.ensures.clients,
)

pub returns-in-Ok : goal.returns-in-Ok
returns-in-Ok c =
    c.in-Ok.ensures ∙ (walked-releasing c.self.inside.slots.items c.self.inside.most c.self.inside.owed c.self.inside.told c.self.inside.readers.items
    c.list.result.now c.self.invariant.0 c.list.ensures.list c.list.ensures.once ∙ ap (at_all releasing) c.self.view_is)
