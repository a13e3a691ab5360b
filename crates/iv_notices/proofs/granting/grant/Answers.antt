use Rattle.std.proofs.Common.{◌∙◌, ap, false, sym}
use Rattle.iv_rows.specs.Options.{if_some}
use Rattle.iv_clients.specs.Clients.{client_at}
use Rattle.iv_clients.specs.Kept.{Kept}
use Rattle.iv_notices.specs.Granting.{is_granted}
use Rattle.iv_notices.proofs.GrantTexts.{at_client-holding_for, at_client-not_holding_for}
use Rattle.iv_notices.proofs.granting.grant.Goals as goal

pub returns-then-not-is_granted_at : goal.returns-then-not-is_granted_at
returns-then-not-is_granted_at c =
    let p = is_granted c.args.engine.now.frame c.args.grants.now in
    at_client-not_holding_for p c.args.text.now c.args.client c.args.clients.now
    (ap (λ z. if_some (client_at z c.args.client) false (λ (k : Kept). p k.role)) (sym c.places.ensures)
    ∙ (sym c.is_granted_at.ensures ∙ c.if-not-is_granted_at.true))

pub returns : goal.returns
returns c =
    let p = is_granted c.args.engine.now.frame c.args.grants.now in
    c.in_ok-hold.ensures ∙ at_client-holding_for p c.args.text.now c.args.client c.args.clients.now
    (ap (λ z. if_some (client_at z c.args.client) false (λ (k : Kept). p k.role)) (sym c.places.ensures)
    ∙ (sym c.is_granted_at.ensures ∙ c.if-not-is_granted_at.false))
