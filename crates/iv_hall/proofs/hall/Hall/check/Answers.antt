use Rattle.std.proofs.Common.{◌∙◌, ap, ◌<◌, subst}
use Rattle.iv_clients.specs.Clients.{at_all}
use Rattle.iv_clients.specs.Kept.{checking}
use Rattle.iv_hall.proofs.Calls.{IsHall-checking}
use Rattle.iv_hall.specs.Numbers.{AreSet}
use Rattle.iv_hall.specs.Hall.{is_told_at}
use Rattle.iv_hall.proofs.WaitingBytes.{AreCounted-checking}
use Rattle.iv_hall.proofs.hall.Hall.check.Goals as goal

pub invariant_of-self : goal.invariant_of-self
invariant_of-self c = (
  IsHall-checking c.self.inside.most c.self.inside.slots.items _ c.self.inside.owed c.self.inside.told c.list_all.new.told c.self.inside.readers.items
      c.args.tokens.now
      c.self.invariant.0 (subst (λ z. AreSet (λ m. m < c.self.inside.most) (is_told_at z) c.self.inside.told c.list_all.new.told) c.deref.ensures.value
      c.list_all.ensures) c.check_all.ensures,
  AreCounted-checking c.self.inside.waiting c.args.tokens.now c.self.inside.slots.items _ c.check_all.ensures c.self.invariant.1,
)

pub returns : goal.returns
returns c = c.check_all.ensures ∙ ap (at_all (checking c.args.tokens.now)) c.self.view_is
