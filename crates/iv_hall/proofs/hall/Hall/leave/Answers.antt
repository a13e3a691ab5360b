use Rattle.std.proofs.Common.{◌∙◌, [], None, ap, set}
use Rattle.iv_rows.specs.Options.{if_some}
use Rattle.iv_clients.specs.Clients.{client_at}
use Rattle.iv_clients.specs.Kept.{Kept}
use Rattle.iv_hall.proofs.FeedReaders.{HasLeft-is_so_at}
use Rattle.iv_hall.proofs.Calls.{IsHall-set_None}
use Rattle.iv_hall.proofs.WaitingBytes.{AreCounted-set_None}
use Rattle.iv_hall.proofs.hall.Hall.leave.Goals as goal

pub invariant_of-self : goal.invariant_of-self
invariant_of-self c = (
  IsHall-set_None c.self.inside.most c.self.inside.slots.items _ c.self.inside.owed c.remove.new.self c.self.inside.told c.remove-2.new.self
      c.self.inside.readers.items
      _ c.args.client c.self.invariant.0
      (HasLeft-is_so_at c.args.client c.self.inside.slots.items c.subs_at.result.now c.self.inside.readers.items c.quit_all.new.readers.items
      (c.subs_at.ensures ∙ ap (λ z. if_some (client_at z c.args.client) [] (λ
      (k : Kept). k.subs)) c.deref.ensures.value) c.quit_all.ensures) c.remove.ensures c.remove-2.ensures c.put_at.ensures,
  AreCounted-set_None c.args.client c.self.inside.waiting c.self.inside.slots.items _ c.put_at.ensures c.self.invariant.1,
)

pub returns : goal.returns
returns c = c.put_at.ensures ∙ ap (λ z. set z c.args.client None) c.self.view_is
