use Rattle.iv_gateway.proofs.gateway.Gateway.run.Goals as goal

pub returns-in-Ok : goal.returns-in-Ok
returns-in-Ok c = λ g b. record {
  lines = c.in-Ok.ensures.lines g.machine b.machine;
  gate = record {
    tokens = b.tokens;
    machine = c.in-Ok.ensures.state g.machine b.machine;
    seats = b.seats;
    feeds = b.feeds;
    clients = b.clients;
    names = b.names;
    log = b.log;
    leads = b.leads;
    position = b.position;
    settled = b.settled;
    forgiven = b.forgiven;
    pending = b.pending;
    shape = b.shape;
  };
}
