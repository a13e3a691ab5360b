use Rattle.std.proofs.Common.{◌∙◌, [], Some, ap, set, string_bytes, ◌≡◌, subst}
use Rattle.iv_hall.proofs.Calls.{IsHall-coming}
use Rattle.iv_hall.specs.Numbers.{AreSet}
use Rattle.iv_rows.specs.Options.{if_some}
use Rattle.iv_clients.specs.Clients.{client_at}
use Rattle.iv_clients.specs.Kept.{Kept}
use Rattle.iv_hall.specs.Hall.{is_told_at}
use Rattle.iv_hall.proofs.FeedReaders.{HasLeft-is_so_at}
use Rattle.iv_hall.proofs.WaitingBytes.{AreCounted-coming}
use Rattle.iv_hall.proofs.hall.Hall.enter.Goals as goal

pub invariant_of-self : goal.invariant_of-self
invariant_of-self c = (
  IsHall-coming c.self.inside.most c.self.inside.slots.items _ c.self.inside.owed c.remove.new.self c.self.inside.told c.list_one.new.told
      c.self.inside.readers.items
      _ c.args.client (string_bytes c.args.role) (string_bytes c.args.user) c.args.digest.items c.args.text.items c.self.invariant.0
      (HasLeft-is_so_at c.args.client c.self.inside.slots.items c.subs_at.result.now c.self.inside.readers.items c.quit_all.new.readers.items
      (c.subs_at.ensures ∙ ap (λ z. if_some (client_at z c.args.client) [] (λ (k : Kept). k.subs)) c.deref.ensures.value) c.quit_all.ensures) c.remove.ensures
      (subst (λ z. AreSet (λ m. m ≡ c.args.client) (is_told_at z) c.self.inside.told c.list_one.new.told) c.deref-2.ensures.value c.list_one.ensures)
      (c.put_at.ensures ∙ ap (λ k. set c.self.inside.slots.items c.args.client (Some k)) c.new.ensures),
  AreCounted-coming c.args.client c.self.inside.waiting c.raised-self-inside.result c.len.result (string_bytes c.args.role) (string_bytes c.args.user) c.args.digest.items c.args.text.items
      c.self.inside.slots.items _ (c.put_at.ensures ∙ ap (λ k. set c.self.inside.slots.items c.args.client (Some k)) c.new.ensures)
      (c.len.ensures ∙ c.args.text.ok.0)
      c.raised-self-inside.ensures c.self.invariant.1,
)

pub returns : goal.returns
returns c = c.put_at.ensures ∙ ((λ i. set (c.self.view_is i) c.args.client (Some (c.new.ensures i))))
