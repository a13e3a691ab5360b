use Rattle.std.proofs.Common.{◌∙◌, ap, is_some, refl, sym}
use Rattle.iv_gate.specs.Events.{led}
use Rattle.iv_gateway.proofs.LiveGateways.{IsGate-IsAlive}
use Rattle.iv_gateway.proofs.gateway.Gateway.lead.Goals as goal

pub returns-then-not-self : goal.returns-then-not-self
returns-then-not-self c = λ g b.
    let lives = sym b.dead ∙ c.if-not-self.true in
    let a = b.alive lives in
    IsGate-IsAlive g led _ lives c.if-not-self.true refl
    (record {
      tokens = a.tokens;
      machine = a.machine;
      seats = a.seats;
      feeds = a.feeds;
      clients = a.clients;
      names = a.names;
      log = a.log;
      leads = c.is_some-self.ensures ∙ ap is_some a.log;
      position = a.position;
      settled = a.settled;
      forgiven = a.forgiven;
      pending = a.pending;
      shape = a.shape;
    })
