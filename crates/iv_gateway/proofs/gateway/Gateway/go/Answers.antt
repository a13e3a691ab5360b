use Rattle.std.proofs.Common.{◌≡◌, ◌∙◌, ℕ, List, None, ap, set, sym, subst}
use Rattle.std.specs.Prelude.{filter, option_map, string_bytes}
use Rattle.iv_access.specs.Rights.{Name}
use Rattle.iv_clients.specs.Clients.{client_at}
use Rattle.iv_clients.specs.Feeds.{is_of_role}
use Rattle.iv_gate.specs.Gate.{Gate, all_rested, all_swept}
use Rattle.iv_gateway.specs.Views.{IsAlive}
use Rattle.iv_gateway.proofs.LeavingClients.{IsAlive-went_none, IsAlive-went_some, leaving}
use Rattle.iv_notices.proofs.ClientChanges.{set-kept_slots}
use Rattle.iv_gateway.proofs.gateway.Gateway.go.Goals as goal

pub returns-in-None : goal.returns-in-None
returns-in-None c = λ g b.
    IsAlive-went_none g c.args.client c.args.self.now.clients _ b.clients
    (sym (c.in_ok-leaver.ensures ∙ ap (λ z. option_map {U = Name × List ℕ} leaving (client_at z c.args.client)) c.places.ensures)
    ∙ ap (option_map {U = Name × List ℕ} (λ p. (string_bytes p.0, p.1.items))) c.in-None.is) b

pub returns-in_ok-settle_told-in-Some : goal.returns-in_ok-settle_told-in-Some
returns-in_ok-settle_told-in-Some c = λ g b.
    let start : Gate = record g { clients = set g.clients c.args.client None } in
    let gone : IsAlive (record g { clients = set g.clients c.args.client None }) (record c.args.self.now { clients = c.leave.new.self }) = record {
      tokens = b.tokens;
      machine = b.machine;
      seats = b.seats;
      feeds = b.feeds;
      names = b.names;
      log = b.log;
      leads = b.leads;
      position = b.position;
      settled = b.settled;
      forgiven = b.forgiven;
      pending = b.pending;
      shape = b.shape;
      clients = c.leave.ensures ∙ (ap (λ z. set z c.args.client None) b.clients ∙ set-kept_slots c.args.client None g.clients);
    } in
    let swept : IsAlive (all_swept (record g { clients = set g.clients c.args.client None }) c.in-Some.feeds.items) c.sweep_all.new.self =
    subst (λ z. IsAlive (all_swept (record g { clients = set g.clients c.args.client None }) z) c.sweep_all.new.self) c.deref.ensures.value
    (c.in_ok-sweep_all-in-Some.ensures (record g { clients = set g.clients c.args.client None }) gone) in
    let those : c.in_ok-seats-in-Some.seats.items ≡ filter (is_of_role (string_bytes c.in-Some.role))
    (all_swept (record g { clients = set g.clients c.args.client None }) c.in-Some.feeds.items).seats =
    c.in_ok-seats-in-Some.ensures
    ∙ (ap (filter (is_of_role c.as_str.result.now)) (c.deref-in-Some.ensures.value ∙ swept.seats)
    ∙ ap (λ r. filter (is_of_role r) (all_swept (record g { clients = set g.clients c.args.client None }) c.in-Some.feeds.items).seats) c.as_str.ensures.value)
    in
    let rested : IsAlive (all_rested (all_swept (record g { clients = set g.clients c.args.client None }) c.in-Some.feeds.items)
    (filter (is_of_role (string_bytes c.in-Some.role)) (all_swept (record g { clients = set g.clients c.args.client None }) c.in-Some.feeds.items).seats))
    c.rest_all.new.self =
    subst (λ z. IsAlive (all_rested (all_swept (record g { clients = set g.clients c.args.client None }) c.in-Some.feeds.items) z) c.rest_all.new.self)
    (c.deref-in-Some-2.ensures.value ∙ those)
    (c.in_ok-rest_all-in-Some.ensures (all_swept (record g { clients = set g.clients c.args.client None }) c.in-Some.feeds.items) swept) in
    IsAlive-went_some g c.args.client (string_bytes c.in-Some.role) c.in-Some.feeds.items c.args.self.now.clients _ b.clients
    (sym (c.in_ok-leaver.ensures ∙ ap (λ z. option_map {U = Name × List ℕ} leaving (client_at z c.args.client)) c.places.ensures)
    ∙ ap (option_map {U = Name × List ℕ} (λ p. (string_bytes p.0, p.1.items))) c.in-Some.is)
    (c.in_ok-settle_told-in-Some.ensures (all_rested (all_swept (record g { clients = set g.clients c.args.client None }) c.in-Some.feeds.items)
    (filter (is_of_role (string_bytes c.in-Some.role)) (all_swept (record g { clients = set g.clients c.args.client None }) c.in-Some.feeds.items).seats))
    rested)
