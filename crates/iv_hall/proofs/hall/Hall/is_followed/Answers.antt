use Rattle.std.proofs.Common.{◌∙◌, ap, false}
use Rattle.std.specs.List.{list_any}
use Rattle.iv_rows.specs.Options.{if_some}
use Rattle.iv_clients.specs.Clients.{client_at}
use Rattle.iv_clients.specs.Kept.{is_followed_by, is_following}
use Rattle.iv_hall.specs.Readers.{readers_of}
use Rattle.iv_hall.proofs.Calls.{list_any-readers_of}
use Rattle.iv_hall.proofs.hall.Hall.is_followed.Goals as goal

pub returns : goal.returns
returns c = c.is_followed_in.ensures ∙ (ap (λ z. list_any (λ n. if_some (client_at z n) false (is_following c.args.feed)) c.readers_of.result.now)
    c.deref.ensures.value ∙ (list_any-readers_of c.self.inside.most c.self.inside.slots.items c.self.inside.owed c.self.inside.told c.self.inside.readers.items
    c.readers_of.result.now c.args.feed c.self.invariant.0 (c.readers_of.ensures.numbers ∙ ap (λ z. readers_of z c.args.feed) c.deref-2.ensures.value)
    ∙ ap (is_followed_by c.args.feed) c.self.view_is))
