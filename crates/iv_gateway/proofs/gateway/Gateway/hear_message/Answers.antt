use Rattle.std.proofs.Common.{◌≡◌, ◌∙◌, ap, rules, refl, sym, subst}
use Rattle.iv_clients.specs.Clients.{at_client, saying}
use Rattle.iv_records.specs.Journal.{said_by}
use Rattle.iv_clients.specs.Kept.{asking}
use Rattle.iv_gate.specs.Gate.{done_for}
use Rattle.iv_gateway.specs.Views.{IsAlive}
use Rattle.iv_notices.proofs.ClientChanges.{at_client-kept_slots}
use Rattle.iv_gateway.proofs.HeardMessages.{asked, did, at_client-answering, client_at-asked}
use Rattle.iv_gateway.proofs.gateway.Gateway.hear_message.Goals as goal

pub returns : goal.returns
returns c = λ g k b there is.
    let m = c.args.client in
    let text = c.args.text.now in
    let counted : IsAlive (asked g c.args.client c.args.text.now) (record c.args.self.now {
      clients = c.ask.new.self;
      scratch = c.read_said.new.scratch;
      tally = c.hear.new.self;
    }) =
    record {
      tokens = b.tokens;
      machine = b.machine;
      seats = b.seats;
      feeds = b.feeds;
      names = b.names;
      log = b.log;
      leads = b.leads;
      position = b.position;
      settled = b.settled;
      forgiven = b.forgiven;
      pending = b.pending;
      shape = b.shape;
      clients = c.in_ok-ask.ensures ∙ (ap (at_client c.args.client asking) b.clients
          ∙ at_client-kept_slots c.args.client (saying c.args.text.now) asking (λ d. refl) g.clients);
    } in
    let done : IsAlive (done_for (asked g c.args.client c.args.text.now) c.args.client k c.args.text.now (said_by c.args.text.now)) c.answer.new.self =
    subst (λ z. IsAlive (done_for (asked g c.args.client c.args.text.now) c.args.client k c.args.text.now z) c.answer.new.self) c.in_ok-said.ensures.message
    (c.in_ok-answer.ensures (asked g c.args.client c.args.text.now) k c.args.text.now counted (client_at-asked g c.args.client k c.args.text.now there) is
    (sym c.in_ok-said.ensures.line) (sym c.in_ok-said.ensures.claim)) in
    let told : IsAlive (did g c.args.client k c.args.text.now) c.settle_told.new.self =
    c.in_ok-settle_told.ensures (done_for (asked g c.args.client c.args.text.now) c.args.client k c.args.text.now (said_by c.args.text.now)) done in
    let brought : c.speaker.inside.brought ≡ c.args.speaker.now.brought = search rules in
    record {
      tokens = told.tokens;
      machine = told.machine;
      seats = told.seats;
      feeds = told.feeds;
      names = told.names;
      log = told.log;
      leads = told.leads;
      position = told.position;
      settled = told.settled;
      forgiven = told.forgiven;
      pending = told.pending;
      shape = told.shape;
      clients = c.answered.ensures ∙ at_client-answering g c.args.client k c.args.text.now c.speaker.inside.brought _ there (brought ∙ ap (λ s. s.brought) is)
          told.clients;
    }
