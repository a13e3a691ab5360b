use Rattle.std.proofs.Common.{◌∙◌, ap, sym}
use Rattle.iv_gateway.proofs.gateway.Gateway.restore.Goals as goal

pub returns-in-Ok-clause-restored : goal.returns-in-Ok-clause-restored
returns-in-Ok-clause-restored c = λ g n b.
    let lives = sym b.dead ∙ c.if-self.false in
    let w = c.in-Ok.ensures.replayed g n (b.alive lives) in
    let a = w.gate in
    record {
      now = w.now;
      restores = w.restores;
      gate = record {
        dead = sym (ap (λ h. h.dead) w.restores.leads.gate ∙ lives);
        alive = λ _. record {
          tokens = a.tokens;
          machine = a.machine;
          seats = a.seats;
          feeds = a.feeds;
          clients = a.clients;
          names = a.names;
          log = a.log;
          leads = a.leads;
          position = a.position;
          settled = a.settled;
          forgiven = a.forgiven;
          pending = a.pending;
          shape = a.shape;
        };
      };
    }
