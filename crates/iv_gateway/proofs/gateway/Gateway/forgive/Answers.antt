use Rattle.std.proofs.Common.{◌∙◌, arith, refl, sym}
use Rattle.iv_gate.specs.Events.{forgave}
use Rattle.iv_gateway.proofs.LiveGateways.{IsGate-IsAlive}
use Rattle.iv_gateway.proofs.JournalReplays.{names_of-forgiven}
use Rattle.iv_gateway.proofs.gateway.Gateway.forgive.Goals as goal

pub returns-then-not-self : goal.returns-then-not-self
returns-then-not-self c = λ g b.
    let lives = sym b.dead ∙ c.if-not-self.true in
    let a = b.alive lives in
    IsGate-IsAlive g forgave _ lives c.if-not-self.true refl
    (record {
      tokens = a.tokens;
      machine = a.machine;
      seats = a.seats;
      feeds = a.feeds;
      clients = a.clients;
      names = names_of-forgiven g _ _ a.names c.forgive.ensures;
      log = a.log;
      leads = a.leads;
      position = a.position;
      settled = a.settled;
      forgiven = omega arith;
      pending = a.pending;
      shape = a.shape;
    })
