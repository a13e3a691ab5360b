use Rattle.std.proofs.Common.{◌∙◌, ap, ◌≡◌, subst, refl}
use Rattle.iv_clients.specs.Clients.{at_client}
use Rattle.iv_clients.specs.Kept.{answering}
use Rattle.iv_hall.proofs.Calls.{IsHall-answering}
use Rattle.iv_hall.specs.Numbers.{AreSet}
use Rattle.iv_hall.specs.Hall.{is_told_at}
use Rattle.iv_hall.proofs.WaitingBytes.{AreCounted-at_client}
use Rattle.iv_hall.proofs.hall.Hall.answered.Goals as goal

pub invariant_of-self : goal.invariant_of-self
invariant_of-self c = (
  IsHall-answering c.self.inside.most c.self.inside.slots.items _ c.self.inside.owed c.self.inside.told c.list_one.new.told c.self.inside.readers.items
      c.args.client
      c.args.brought c.self.invariant.0 (subst (λ z. AreSet (λ m. m ≡ c.args.client) (is_told_at z) c.self.inside.told c.list_one.new.told)
      c.deref.ensures.value c.list_one.ensures) c.answered_at.ensures,
  AreCounted-at_client c.args.client c.self.inside.waiting (answering c.args.brought) c.self.inside.slots.items _
      (λ k. refl) c.answered_at.ensures c.self.invariant.1,
)

pub returns : goal.returns
returns c = c.answered_at.ensures ∙ ap (at_client c.args.client (answering c.args.brought)) c.self.view_is
