use Rattle.iv_hall.specs.Readers.{HasKept}
use Rattle.std.proofs.Common.{◌∙◌, ap, subst, refl}
use Rattle.std.specs.Prelude.{option_and_then}
use Rattle.iv_clients.specs.Clients.{at_client, client_at, followed_by}
use Rattle.iv_clients.specs.Kept.{Kept, keeping_closed}
use Rattle.iv_hall.proofs.Calls.{IsHall-keeping_closed}
use Rattle.iv_hall.proofs.WaitingBytes.{AreCounted-at_client}
use Rattle.iv_hall.proofs.hall.Hall.close.Goals as goal

pub invariant_of-self : goal.invariant_of-self
invariant_of-self c = (
  IsHall-keeping_closed c.self.inside.most c.self.inside.slots.items _ c.self.inside.owed c.self.inside.told c.self.inside.readers.items _ c.args.client
      c.args.own
      c.followed_at-feed.result c.self.invariant.0
      (c.followed_at-feed.ensures ∙ ap (λ z. option_and_then (λ (k : Kept). followed_by k.subs c.args.own) (client_at z c.args.client)) c.deref.ensures.value)
      c.close_at.ensures (subst (λ z. HasKept c.args.client c.followed_at-feed.result z c.self.inside.readers.items c.quit_unfollowed.new.readers.items)
      c.deref-2.ensures.value c.quit_unfollowed.ensures),
  AreCounted-at_client c.args.client c.self.inside.waiting (keeping_closed c.args.own) c.self.inside.slots.items _
      (λ k. refl) c.close_at.ensures c.self.invariant.1,
)

pub returns : goal.returns
returns c = c.close_at.ensures ∙ ap (at_client c.args.client (keeping_closed c.args.own)) c.self.view_is
