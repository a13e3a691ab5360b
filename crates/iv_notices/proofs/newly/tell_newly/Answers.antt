use Rattle.std.proofs.Common.{◌∙◌, [], ap, length, sym}
use Rattle.std.specs.Prelude.{◌==◌}
use Rattle.iv_rows.specs.Options.{if_some}
use Rattle.iv_clients.specs.Clients.{at_client, client_at}
use Rattle.iv_clients.specs.Kept.{Kept, holding}
use Rattle.iv_notices.specs.Newly.{text_for}
use Rattle.iv_notices.proofs.NewRights.{heard_at, not_heard_at}
use Rattle.iv_notices.proofs.newly.tell_newly.Goals as goal

pub returns-then-is_empty : goal.returns-then-is_empty
returns-then-is_empty c =
    let text = c.text_at-text.ensures
    ∙ ap (λ ps. if_some (client_at ps c.args.client) [] (λ (k : Kept). text_for c.args.all.now k.role)) c.places.ensures in
    not_heard_at c.args.all.now c.args.client c.args.clients.now (ap (λ z. length z == 0) (sym text) ∙ (sym c.is_empty.ensures ∙ c.if-is_empty.true))

pub returns : goal.returns
returns c =
    let text = c.text_at-text.ensures
    ∙ ap (λ ps. if_some (client_at ps c.args.client) [] (λ (k : Kept). text_for c.args.all.now k.role)) c.places.ensures in
    c.in_ok-hold.ensures
    ∙ (ap (λ z. at_client c.args.client (holding z) c.args.clients.now) text
    ∙ heard_at c.args.all.now c.args.client c.args.clients.now (ap (λ z. length z == 0) (sym text) ∙ (sym c.is_empty.ensures ∙ c.if-is_empty.false)))
