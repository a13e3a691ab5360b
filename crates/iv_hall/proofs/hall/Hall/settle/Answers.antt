use Rattle.std.proofs.Common.{◌∙◌, ap, refl, subst, length, sym}
use Rattle.iv_clients.specs.Clients.{at_all}
use Rattle.iv_clients.specs.Kept.{holding_owed}
use Rattle.iv_hall.proofs.Calls.{IsHall-fail, walked-holding_owed, IsHall-holding_owed}
use Rattle.iv_hall.specs.Numbers.{AreSet}
use Rattle.iv_hall.specs.Hall.{is_told_at}
use Rattle.std.specs.List.{Contains}
use Rattle.iv_hall.proofs.WaitingBytes.{AreCounted-none, AreCounted-walked}
use Rattle.iv_hall.proofs.hall.Hall.settle.Goals as goal

pub invariant_of-self : goal.invariant_of-self
invariant_of-self c = (
  IsHall-holding_owed c.self.inside.most c.self.inside.slots.items _ c.self.inside.owed c.clear.new.self c.self.inside.told c.list_some.new.told
      c.self.inside.readers.items
      c.list-owed.result.now c.args.text.now c.self.invariant.0 c.list-owed.ensures.list
      (subst (λ z. AreSet (Contains c.list-owed.result.now) (is_told_at z) c.self.inside.told c.list_some.new.told) c.deref.ensures.value c.list_some.ensures)
      (c.in-Ok.ensures ∙ walked-holding_owed c.self.inside.slots.items c.self.inside.most c.self.inside.owed c.self.inside.told c.self.inside.readers.items
      c.list.result.now c.args.text.now c.self.invariant.0 c.list.ensures.list c.list.ensures.once) c.clear.ensures,
  AreCounted-walked c.self.inside.waiting c.raised-self-inside.result (length c.args.text.now) (length c.list-owed.result.now) c.args.text.now c.list.result.now
      c.self.inside.slots.items _ c.in-Ok.ensures refl (ap length (c.list-owed.ensures.list ∙ sym c.list.ensures.list)) c.raised-self-inside.ensures
      c.self.invariant.1,
)

pub invariant_of-self-in-Err : goal.invariant_of-self-in-Err
invariant_of-self-in-Err c = (
  IsHall-fail c.self.inside.most c.self.inside.slots.items _ c.self.inside.owed c.self.inside.owed _ c.self.inside.told _ c.self.inside.readers.items _
      c.self.invariant.0 refl c.lose.ensures.owed c.lose.ensures.told c.lose.ensures.readers c.lose.ensures.clients,
  AreCounted-none _ c.self.inside.waiting c.lose.ensures.clients,
)

pub returns-in-Ok : goal.returns-in-Ok
returns-in-Ok c =
    c.in-Ok.ensures ∙ (walked-holding_owed c.self.inside.slots.items c.self.inside.most c.self.inside.owed c.self.inside.told c.self.inside.readers.items
    c.list.result.now c.args.text.now c.self.invariant.0 c.list.ensures.list c.list.ensures.once ∙ ap (at_all (holding_owed c.args.text.now)) c.self.view_is)
