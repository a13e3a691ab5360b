use Rattle.std.proofs.Common.{◌∙◌, ap, option_map, refl}
use Rattle.iv_message.specs.Seen.{id_data}
use Rattle.iv_clients.specs.Clients.{at_client, closing}
use Rattle.iv_clients.specs.Kept.{keeping_closed}
use Rattle.iv_gateway.proofs.ClosedNumbers.{IsAlive-closes_none, IsAlive-closes_some, followed_by-kept_slots}
use Rattle.iv_notices.proofs.ClientChanges.{at_client-kept_slots}
use Rattle.iv_gateway.proofs.gateway.Gateway.close.Goals as goal

pub returns-in_ok-reply-in-None : goal.returns-in_ok-reply-in-None
returns-in_ok-reply-in-None c = λ g x b e.
    IsAlive-closes_none g c.args.client x (option_map id_data c.args.id.now) c.args.own _
    (followed_by-kept_slots g x c.args.client c.args.own c.places.result.now _ (c.places.ensures ∙ b.clients) e c.followed_at.ensures ∙ c.in-None.is)
    (c.in_ok-reply-in-None.ensures g b)

pub returns-in_ok-sweep-in-Some : goal.returns-in_ok-sweep-in-Some
returns-in_ok-sweep-in-Some c = λ g x b e.
    IsAlive-closes_some g c.args.client x (option_map id_data c.args.id.now) c.args.own c.in-Some.number _
    (followed_by-kept_slots g x c.args.client c.args.own c.places.result.now _ (c.places.ensures ∙ b.clients) e c.followed_at.ensures ∙ c.in-Some.is)
    (c.in_ok-sweep-in-Some.ensures _ (c.in_ok-reply-in-Some.ensures (record g { clients = at_client c.args.client (closing c.args.own) g.clients })
    (record {
      tokens = b.tokens;
      machine = b.machine;
      seats = b.seats;
      feeds = b.feeds;
      names = b.names;
      log = b.log;
      leads = b.leads;
      position = b.position;
      settled = b.settled;
      forgiven = b.forgiven;
      pending = b.pending;
      shape = b.shape;
      clients = c.close.ensures ∙ (ap (at_client c.args.client (keeping_closed c.args.own)) b.clients
          ∙ at_client-kept_slots c.args.client (closing c.args.own) (keeping_closed c.args.own) (λ k. refl) g.clients);
    })))
