use Rattle.std.proofs.Common.{◌∙◌, ap, refl, sym}
use Rattle.iv_clients.specs.Clients.{at_all, checked}
use Rattle.iv_clients.specs.Kept.{checking}
use Rattle.iv_gate.specs.Events.{known}
use Rattle.iv_gateway.proofs.LiveGateways.{IsGate-IsAlive}
use Rattle.iv_notices.proofs.ClientChanges.{at_all-kept_slots, kept-checked}
use Rattle.iv_gateway.proofs.gateway.Gateway.know.Goals as goal

pub returns-then-not-self : goal.returns-then-not-self
returns-then-not-self c = λ g b.
    let lives = sym b.dead ∙ c.if-not-self.true in
    let a = b.alive lives in
    let ts = c.args.tokens.items in
    IsGate-IsAlive g (known c.args.tokens.items) _ lives c.if-not-self.true refl
    (record {
      tokens = refl;
      machine = a.machine;
      seats = a.seats;
      feeds = a.feeds;
      names = a.names;
      log = a.log;
      leads = a.leads;
      position = a.position;
      settled = a.settled;
      forgiven = a.forgiven;
      pending = a.pending;
      shape = a.shape;
      clients = c.check.ensures ∙ (ap (λ z. at_all (checking z) c.args.self.now.clients) c.deref.ensures.value
          ∙ (ap (at_all (checking c.args.tokens.items)) a.clients ∙ at_all-kept_slots (checked c.args.tokens.items) (checking c.args.tokens.items)
          (kept-checked c.args.tokens.items) g.clients));
    })
