use Rattle.std.proofs.Common.{◌∙◌, ap, refl, sym}
use Rattle.iv_clients.specs.Clients.{at_client, moved}
use Rattle.iv_clients.specs.Feeds.{feed_of}
use Rattle.iv_clients.specs.Kept.{keeping_moved}
use Rattle.iv_gateway.specs.Reading.{doubled}
use Rattle.iv_notices.proofs.ClientChanges.{at_client-kept_slots}
use Rattle.iv_gateway.proofs.NewSubscriptions.{IsAlive-joined_none, IsAlive-joined}
use Rattle.iv_gateway.proofs.gateway.Gateway.join.Goals as goal

pub returns-in-None : goal.returns-in-None
returns-in-None c = λ g b.
    IsAlive-joined_none g c.args.client (feed_of g.feeds c.args.new) (feed_of g.feeds c.args.older) _
    (sym (c.doubled.ensures ∙ ap (λ fs. doubled (feed_of fs c.args.new) (feed_of fs c.args.older)) (c.deref.ensures.value ∙ b.feeds)) ∙ c.in-None.is) b

pub returns-in_ok-shut-in-Some : goal.returns-in_ok-shut-in-Some
returns-in_ok-shut-in-Some c = λ g b.
    let new = c.in-Some.new in
    let older = c.in-Some.older in
    IsAlive-joined g c.args.client (feed_of g.feeds c.args.new) (feed_of g.feeds c.args.older) _ c.in-Some.session new older
    (sym (c.doubled.ensures ∙ ap (λ fs. doubled (feed_of fs c.args.new) (feed_of fs c.args.older)) (c.deref.ensures.value ∙ b.feeds)) ∙ c.in-Some.is)
    (λ f s k. c.in_ok-shut-in-Some.ensures (record g { clients = at_client c.args.client (moved new older) g.clients }) f
    (record {
      tokens = b.tokens;
      machine = b.machine;
      seats = b.seats;
      feeds = b.feeds;
      names = b.names;
      log = b.log;
      leads = b.leads;
      position = b.position;
      settled = b.settled;
      forgiven = b.forgiven;
      pending = b.pending;
      shape = b.shape;
      clients = c.in_ok-redirect-in-Some.ensures ∙ (ap (at_client c.args.client (keeping_moved new older)) b.clients
          ∙ at_client-kept_slots c.args.client (moved new older) (keeping_moved new older) (λ k. refl) g.clients);
    }) s k)
