use Rattle.std.proofs.Common.{◌∙◌, ap, false, sym}
use Rattle.iv_rows.specs.Options.{if_some}
use Rattle.iv_clients.specs.Clients.{client_at}
use Rattle.iv_clients.specs.Kept.{Kept}
use Rattle.iv_notices.specs.Shaping.{is_admin}
use Rattle.iv_notices.proofs.GrantTexts.{at_client-holding_for, at_client-not_holding_for}
use Rattle.iv_notices.proofs.shaping.inform.Goals as goal

pub returns-then-not-is_admin_at : goal.returns-then-not-is_admin_at
returns-then-not-is_admin_at c =
    at_client-not_holding_for is_admin c.args.text.now c.args.client c.args.clients.now
    (ap (λ z. if_some (client_at z c.args.client) false (λ (k : Kept). is_admin k.role)) (sym c.places.ensures)
    ∙ (sym c.is_admin_at.ensures ∙ c.if-not-is_admin_at.true))

pub returns : goal.returns
returns c =
    c.in_ok-hold.ensures ∙ at_client-holding_for is_admin c.args.text.now c.args.client c.args.clients.now
    (ap (λ z. if_some (client_at z c.args.client) false (λ (k : Kept). is_admin k.role)) (sym c.places.ensures)
    ∙ (sym c.is_admin_at.ensures ∙ c.if-not-is_admin_at.false))
