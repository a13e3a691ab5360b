use Rattle.std.proofs.Common.{◌∙◌, ◌++◌, ap}
use Rattle.iv_message.specs.Told.{alive, told_text}
use Rattle.iv_clients.specs.Clients.{at_all, beating}
use Rattle.iv_clients.specs.Kept.{holding_beat}
use Rattle.iv_notices.proofs.ClientChanges.{at_all-kept_slots, kept-beating}
use Rattle.iv_gateway.proofs.gateway.Gateway.beat.Goals as goal

pub returns : goal.returns
returns c = λ g b. record {
  tokens = b.tokens;
  machine = b.machine;
  seats = b.seats;
  feeds = b.feeds;
  names = b.names;
  log = b.log;
  leads = b.leads;
  position = b.position;
  settled = b.settled;
  forgiven = b.forgiven;
  pending = b.pending;
  shape = b.shape;
  clients = c.in_ok-beat.ensures
      ∙ (ap (λ z. at_all (holding_beat z) c.args.self.now.clients) (c.deref.ensures.value
      ∙ (c.in_ok-push_alive.ensures ∙ ap (λ z. z ++ told_text alive) c.new-text.ensures.items))
      ∙ (ap (at_all (holding_beat (told_text alive))) b.clients ∙ at_all-kept_slots (beating g.entries) (holding_beat (told_text alive))
      (kept-beating g.entries)
      g.clients));
}
