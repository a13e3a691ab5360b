use Rattle.std.proofs.Common.{◌≡◌, ◌∙◌, option_map, ap, refl, sym}
use Rattle.iv_engine.specs.Known.{columns_named}
use Rattle.iv_message.specs.Seen.{id_data}
use Rattle.iv_message.specs.Told.{opened, told_text}
use Rattle.iv_clients.specs.Clients.{at_client, following}
use Rattle.iv_clients.specs.Kept.{keeping_new}
use Rattle.iv_gate.specs.Gate.{columns_in, next_own, tells}
use Rattle.iv_gateway.specs.Reading.{own_next}
use Rattle.iv_notices.proofs.ClientChanges.{at_client-kept_slots}
use Rattle.iv_gateway.proofs.NewSubscriptions.{own_next-next_own}
use Rattle.iv_gateway.proofs.gateway.Gateway.follow.Goals as goal

pub returns : goal.returns
returns c = λ g b.
    let id = option_map id_data c.args.id.now in
    let m = c.args.client in
    let rel = c.args.rel.now in
    let own : own_next c.places.result.now c.args.client ≡ next_own g c.args.client =
    own_next-next_own g c.args.client c.places.result.now (c.places.ensures ∙ b.clients) in
    let columns : columns_named c.args.self.now.engine.frame c.args.rel.now ≡ columns_in g.machine c.args.rel.now =
    ap (λ f. columns_named f c.args.rel.now) (sym b.machine.frame) in
    let text : told_text (opened (option_map id_data c.args.id.now) (next_own g c.args.client) (columns_in g.machine c.args.rel.now)) ≡ c.deref.result.now =
    sym (c.deref.ensures.value ∙ (c.in_ok-text.ensures ∙ (λ i. told_text (opened (option_map id_data c.args.id.now) (own i) (columns i))))) in
    let told = c.in_ok-tell.ensures g (opened id (next_own g m) (columns_in g.machine rel)) b text in
    record {
      tokens = told.tokens;
      machine = told.machine;
      seats = told.seats;
      feeds = told.feeds;
      names = told.names;
      log = told.log;
      leads = told.leads;
      position = told.position;
      settled = told.settled;
      forgiven = told.forgiven;
      pending = told.pending;
      shape = told.shape;
      clients = c.in_ok-follow.ensures ∙ (ap (at_client c.args.client (keeping_new c.args.number)) told.clients
          ∙ at_client-kept_slots c.args.client (following c.args.number) (keeping_new c.args.number) (λ k. refl)
          (tells g c.args.client (opened (option_map id_data c.args.id.now) (next_own g c.args.client) (columns_in g.machine c.args.rel.now))).clients);
    }
