use Rattle.std.proofs.Common.{◌∙◌, ap, refl, ◌<◌, subst, length}
use Rattle.iv_clients.specs.Clients.{at_all}
use Rattle.iv_clients.specs.Kept.{holding_beat}
use Rattle.iv_hall.proofs.Calls.{IsHall-holding_beat, IsHall-fail}
use Rattle.iv_hall.specs.Numbers.{AreSet}
use Rattle.iv_hall.specs.Hall.{is_told_at}
use Rattle.iv_hall.proofs.WaitingBytes.{AreCounted-holding_beat, AreCounted-none}
use Rattle.iv_hall.proofs.hall.Hall.beat.Goals as goal

pub invariant_of-self : goal.invariant_of-self
invariant_of-self c = (
  IsHall-holding_beat c.self.inside.most c.self.inside.slots.items _ c.self.inside.owed c.self.inside.told c.list_all.new.told c.self.inside.readers.items
      c.args.text.now
      c.self.invariant.0 (subst (λ z. AreSet (λ m. m < c.self.inside.most) (is_told_at z) c.self.inside.told c.list_all.new.told) c.deref.ensures.value
      c.list_all.ensures) c.in-Ok.ensures,
  AreCounted-holding_beat c.self.inside.waiting c.raised-self-inside.result
      (length c.args.text.now) c.len.result c.args.text.now c.self.inside.slots.items _ c.in-Ok.ensures
      refl (c.len.ensures ∙ c.self.inside.slots.ok.0) c.raised-self-inside.ensures c.self.invariant.1,
)

pub invariant_of-self-in-Err : goal.invariant_of-self-in-Err
invariant_of-self-in-Err c = (
  IsHall-fail c.self.inside.most c.self.inside.slots.items _ c.self.inside.owed c.self.inside.owed _ c.self.inside.told _ c.self.inside.readers.items _
      c.self.invariant.0 refl c.lose.ensures.owed c.lose.ensures.told c.lose.ensures.readers c.lose.ensures.clients,
  AreCounted-none _ c.raised-self-inside.result c.lose.ensures.clients,
)

pub returns-in-Ok : goal.returns-in-Ok
returns-in-Ok c = c.in-Ok.ensures ∙ ap (at_all (holding_beat c.args.text.now)) c.self.view_is
