use Rattle.std.proofs.Common.{◌∙◌, ap, false, option_map, sym}
use Rattle.iv_rows.specs.Options.{if_some}
use Rattle.iv_clients.specs.Clients.{client_at}
use Rattle.iv_clients.specs.Kept.{is_told, kept}
use Rattle.iv_notices.proofs.ClientChanges.{client_at-kept_slots, if_some-is_told}
use Rattle.iv_gateway.proofs.gateway.Gateway.told.Goals as goal

pub returns-clause-listed : goal.returns-clause-listed
returns-clause-listed c = λ g m x b lives there due.
    c.told.ensures.listed m (kept x) (ap (λ z. client_at z m) (b.alive lives).clients ∙ (client_at-kept_slots g.clients m ∙ ap (option_map kept) there)) due

pub returns-clause-only : goal.returns-clause-only
returns-clause-only c = λ g m b lives i.
    sym (if_some-is_told (client_at g.clients m)) ∙
    (ap (λ o. if_some o false is_told) (sym (ap (λ z. client_at z m) (b.alive lives).clients ∙ client_at-kept_slots g.clients m))
    ∙ c.told.ensures.only m i)
