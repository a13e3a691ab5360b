use Rattle.std.proofs.Common.{◌∙◌, [], ap, subst, ◌≡◌}
use Rattle.iv_clients.specs.Clients.{at_client, client_at}
use Rattle.iv_clients.specs.Kept.{Kept, emptied}
use Rattle.iv_rows.specs.Options.{if_some}
use Rattle.iv_hall.proofs.Calls.{IsHall-emptied}
use Rattle.iv_hall.specs.Numbers.{AreSet}
use Rattle.iv_hall.specs.Hall.{is_told_at}
use Rattle.iv_hall.proofs.WaitingBytes.{AreCounted-emptied}
use Rattle.iv_hall.proofs.hall.Hall.take.Goals as goal

pub invariant_of-self : goal.invariant_of-self
invariant_of-self c = (
  IsHall-emptied c.self.inside.most c.self.inside.slots.items _ c.self.inside.owed c.self.inside.told _ c.self.inside.readers.items c.args.client
      c.self.invariant.0
      c.take_at-text.ensures.slots (subst (λ z. AreSet (λ m. m ≡ c.args.client) (is_told_at z) c.self.inside.told c.list_one.new.told) c.deref.ensures.value
      c.list_one.ensures),
  AreCounted-emptied c.args.client c.self.inside.waiting c.self.inside.slots.items _ c.take_at-text.ensures.slots c.self.invariant.1,
)

pub returns-clause-bytes : goal.returns-clause-bytes
returns-clause-bytes c = c.take_at-text.ensures.bytes ∙ ap (λ z. if_some (client_at z c.args.client) [] (λ (k : Kept). k.sendable)) c.self.view_is

pub returns-clause-hall : goal.returns-clause-hall
returns-clause-hall c = c.take_at-text.ensures.slots ∙ ap (at_client c.args.client emptied) c.self.view_is
