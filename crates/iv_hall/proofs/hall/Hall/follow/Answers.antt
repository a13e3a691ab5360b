use Rattle.std.proofs.Common.{◌∙◌, ap, refl}
use Rattle.iv_clients.specs.Clients.{at_client}
use Rattle.iv_clients.specs.Kept.{keeping_new}
use Rattle.iv_hall.proofs.Calls.{IsHall-fail, IsHall-keeping_new}
use Rattle.iv_hall.proofs.WaitingBytes.{AreCounted-none, AreCounted-at_client}
use Rattle.iv_hall.proofs.hall.Hall.follow.Goals as goal

pub invariant_of-self : goal.invariant_of-self
invariant_of-self c = (
  IsHall-keeping_new c.self.inside.most c.self.inside.slots.items _ c.self.inside.owed c.self.inside.told c.self.inside.readers.items _ c.args.client
      c.args.feed
      c.self.invariant.0 c.in-Ok.ensures.clients c.in-Ok.ensures.readers,
  AreCounted-at_client c.args.client c.self.inside.waiting (keeping_new c.args.feed) c.self.inside.slots.items _
      (λ k. refl) c.in-Ok.ensures.clients c.self.invariant.1,
)

pub invariant_of-self-in-Err : goal.invariant_of-self-in-Err
invariant_of-self-in-Err c = (
  IsHall-fail c.self.inside.most c.self.inside.slots.items _ c.self.inside.owed c.self.inside.owed _ c.self.inside.told _ c.self.inside.readers.items _
      c.self.invariant.0 refl c.lose.ensures.owed c.lose.ensures.told c.lose.ensures.readers c.lose.ensures.clients,
  AreCounted-none _ c.self.inside.waiting c.lose.ensures.clients,
)

pub returns-in-Ok : goal.returns-in-Ok
returns-in-Ok c = c.in-Ok.ensures.clients ∙ ap (at_client c.args.client (keeping_new c.args.feed)) c.self.view_is
