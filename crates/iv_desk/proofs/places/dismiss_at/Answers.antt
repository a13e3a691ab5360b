use Rattle.std.proofs.Common.{◌∙◌, ap, sym, subst}
use Rattle.std.specs.Prelude.{codes}
use Rattle.iv_clients.specs.Clients.{at_client}
use Rattle.iv_peer.specs.Socket.{closed}
use Rattle.iv_desk.specs.Front.{at_socket, turned_away}
use Rattle.iv_desk.specs.Desks.{IsBehind, with_peer}
use Rattle.iv_desk.proofs.StatesAfterStep.{IsBehind-closed, IsBehind-dismissed}
use Rattle.iv_desk.proofs.places.dismiss_at.Goals as goal

pub returns-in_ok-close_at : goal.returns-in_ok-close_at
returns-in_ok-close_at c = λ d b.
    IsBehind-dismissed d c.args.at c.args.gateway.now c.close_at.new.places.items (sym (c.is_dropped.ensures d.gate b.gate b.alive) ∙ c.if-is_dropped.true)
    (subst (IsBehind (at_socket c.args.at turned_away d) c.args.gateway.now)
    (sym (c.in_ok-close_at.ensures ∙ ap (λ z. at_client c.args.at (with_peer (closed 4401 z)) c.args.places.now.items) c.no_role.ensures))
    (IsBehind-closed 4401 (codes "This token opens no role.") d c.args.at c.args.gateway.now c.args.places.now.items b))
