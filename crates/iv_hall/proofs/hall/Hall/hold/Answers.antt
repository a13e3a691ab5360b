use Rattle.std.proofs.Common.{◌∙◌, ap, ◌≡◌, subst, refl, length}
use Rattle.std.specs.Prelude.{is_some}
use Rattle.iv_clients.specs.Clients.{at_client, client_at}
use Rattle.iv_clients.specs.Kept.{holding}
use Rattle.iv_hall.proofs.Calls.{IsHall-fail, IsHall-holding}
use Rattle.iv_hall.specs.Numbers.{AreSet}
use Rattle.iv_hall.specs.Hall.{is_told_at}
use Rattle.iv_hall.proofs.WaitingBytes.{AreCounted-holding, AreCounted-none}
use Rattle.iv_hall.proofs.hall.Hall.hold.Goals as goal

pub invariant_of-self : goal.invariant_of-self
invariant_of-self c = (
  IsHall-holding c.self.inside.most c.self.inside.slots.items _ c.self.inside.owed c.set.new.self c.self.inside.told c.list_one.new.told
      c.self.inside.readers.items
      c.args.client c.is_there.result c.args.text.now c.self.invariant.0
      (c.is_there.ensures ∙ ap (λ z. is_some (client_at z c.args.client)) c.deref.ensures.value) c.set.ensures
      (subst (λ z. AreSet (λ m. m ≡ c.args.client) (is_told_at z) c.self.inside.told c.list_one.new.told) c.deref-in-Ok.ensures.value c.list_one.ensures)
      c.in-Ok.ensures,
  AreCounted-holding c.args.client c.self.inside.waiting c.raised-self-inside.result
      (length c.args.text.now) c.args.text.now c.self.inside.slots.items _ c.in-Ok.ensures
      refl c.raised-self-inside.ensures c.self.invariant.1,
)

pub invariant_of-self-in-Err : goal.invariant_of-self-in-Err
invariant_of-self-in-Err c = (
  IsHall-fail c.self.inside.most c.self.inside.slots.items _ c.self.inside.owed c.set.new.self _ c.self.inside.told _ c.self.inside.readers.items _
      c.self.invariant.0 c.set.ensures.size c.lose.ensures.owed c.lose.ensures.told c.lose.ensures.readers c.lose.ensures.clients,
  AreCounted-none _ c.raised-self-inside.result c.lose.ensures.clients,
)

pub returns-in-Ok : goal.returns-in-Ok
returns-in-Ok c = c.in-Ok.ensures ∙ ap (at_client c.args.client (holding c.args.text.now)) c.self.view_is
