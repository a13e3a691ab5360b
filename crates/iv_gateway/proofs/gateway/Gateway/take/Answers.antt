use Rattle.std.proofs.Common.{◌∙◌, ap, refl, sym}
use Rattle.iv_clients.specs.Clients.{at_client, handing}
use Rattle.iv_clients.specs.Kept.{emptied}
use Rattle.iv_gate.specs.Events.{handed}
use Rattle.iv_gateway.proofs.LiveGateways.{IsGate-IsAlive}
use Rattle.iv_notices.proofs.ClientChanges.{at_client-kept_slots, kept-handing, sendable-kept_slots}
use Rattle.iv_gateway.proofs.gateway.Gateway.take.Goals as goal

pub returns-clause-bytes : goal.returns-clause-bytes
returns-clause-bytes c = λ g b d. c.take.ensures.bytes ∙ sendable-kept_slots c.args.self.now.clients g.clients c.args.client (b.alive d).clients

pub returns-clause-gate : goal.returns-clause-gate
returns-clause-gate c = λ g b.
    let lives = sym b.dead ∙ c.if-self.false in
    let a = b.alive lives in
    IsGate-IsAlive g (handed c.args.client) _ lives c.if-self.false refl
    (record {
      tokens = a.tokens;
      machine = a.machine;
      seats = a.seats;
      feeds = a.feeds;
      names = a.names;
      log = a.log;
      leads = a.leads;
      position = a.position;
      settled = a.settled;
      forgiven = a.forgiven;
      pending = a.pending;
      shape = a.shape;
      clients = c.take.ensures.hall ∙ (ap (at_client c.args.client emptied) a.clients
          ∙ at_client-kept_slots c.args.client handing emptied (kept-handing c.told_texts_are_lines.ensures) g.clients);
    })
