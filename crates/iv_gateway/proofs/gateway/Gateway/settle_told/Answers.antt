use Rattle.std.proofs.Common.{◌∙◌, ◌++◌, ap}
use Rattle.iv_message.specs.Told.{settled, told_text}
use Rattle.iv_gateway.proofs.ClientStates.{at_all-settling}
use Rattle.iv_gateway.proofs.gateway.Gateway.settle_told.Goals as goal

pub returns : goal.returns
returns c = λ g b. record {
  tokens = b.tokens;
  machine = b.machine;
  seats = b.seats;
  feeds = b.feeds;
  names = b.names;
  log = b.log;
  leads = b.leads;
  position = b.position;
  settled = b.settled;
  forgiven = b.forgiven;
  pending = b.pending;
  shape = b.shape;
  clients = c.in_ok-settle.ensures ∙ at_all-settling g.entries g.clients c.args.self.now.clients c.deref.result.now
      (c.deref.ensures.value ∙ (c.in_ok-push_settled.ensures ∙ ap (λ z. z ++ told_text settled) c.new-text.ensures.items)) b.clients;
}
