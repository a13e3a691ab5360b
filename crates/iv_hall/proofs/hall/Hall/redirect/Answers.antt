use Rattle.iv_hall.specs.Readers.{HasKept, IsReader}
use Rattle.std.proofs.Common.{◌∙◌, Some, ap, refl, subst}
use Rattle.iv_clients.specs.Clients.{at_client}
use Rattle.iv_clients.specs.Kept.{keeping_moved}
use Rattle.iv_hall.proofs.Calls.{IsHall-fail, IsHall-keeping_moved}
use Rattle.iv_hall.proofs.WaitingBytes.{AreCounted-none, AreCounted-at_client}
use Rattle.iv_hall.proofs.hall.Hall.redirect.Goals as goal

pub invariant_of-self : goal.invariant_of-self
invariant_of-self c = (
  IsHall-keeping_moved c.self.inside.most c.self.inside.slots.items _ c.self.inside.owed c.self.inside.told c.self.inside.readers.items
      c.list_reader.new.readers.items _
      c.args.client c.args.from c.args.to c.self.invariant.0 c.redirect_at.ensures
      (subst (λ z. IsReader c.args.client c.args.to z c.self.inside.readers.items c.list_reader.new.readers.items) c.deref.ensures.value c.in-Ok.ensures)
      (subst (λ z. HasKept c.args.client (Some c.args.from) z c.list_reader.new.readers.items c.quit_unfollowed.new.readers.items) c.deref-in-Ok.ensures.value
      c.quit_unfollowed.ensures),
  AreCounted-at_client c.args.client c.self.inside.waiting (keeping_moved c.args.from c.args.to) c.self.inside.slots.items _ (λ k. refl) c.redirect_at.ensures
      c.self.invariant.1,
)

pub invariant_of-self-in-Err : goal.invariant_of-self-in-Err
invariant_of-self-in-Err c = (
  IsHall-fail c.self.inside.most c.self.inside.slots.items _ c.self.inside.owed c.self.inside.owed _ c.self.inside.told _ c.self.inside.readers.items _
      c.self.invariant.0 refl c.lose.ensures.owed c.lose.ensures.told c.lose.ensures.readers c.lose.ensures.clients,
  AreCounted-none _ c.self.inside.waiting c.lose.ensures.clients,
)

pub returns-in-Ok : goal.returns-in-Ok
returns-in-Ok c = c.redirect_at.ensures ∙ ap (at_client c.args.client (keeping_moved c.args.from c.args.to)) c.self.view_is
