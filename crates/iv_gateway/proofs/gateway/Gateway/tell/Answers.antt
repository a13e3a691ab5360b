use Rattle.std.proofs.Common.{◌∙◌}
use Rattle.iv_gateway.proofs.ClientStates.{at_client-told_one}
use Rattle.iv_gateway.proofs.gateway.Gateway.tell.Goals as goal

pub returns : goal.returns
returns c = λ g t b e. record {
  tokens = b.tokens;
  machine = b.machine;
  seats = b.seats;
  feeds = b.feeds;
  names = b.names;
  log = b.log;
  leads = b.leads;
  position = b.position;
  settled = b.settled;
  forgiven = b.forgiven;
  pending = b.pending;
  shape = b.shape;
  clients = c.in_ok-hold.ensures ∙ at_client-told_one g.entries g.clients c.args.self.now.clients c.args.client t c.args.text.now e b.clients;
}
