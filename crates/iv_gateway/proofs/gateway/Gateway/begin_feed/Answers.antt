use Rattle.std.proofs.Common.{◌∙◌, option_map, ap, rules, sym, subst}
use Rattle.std.specs.Prelude.{string_bytes}
use Rattle.iv_message.specs.Seen.{id_data}
use Rattle.iv_gateway.specs.Reading.{follows_new}
use Rattle.iv_gateway.specs.Views.{IsAlive, opening_of}
use Rattle.iv_gateway.proofs.NewSubscriptions.{IsAlive-feed_begun}
use Rattle.iv_gateway.proofs.gateway.Gateway.begin_feed.Goals as goal

pub returns-in_ok-insert-in-Subscribed : goal.returns-in_ok-insert-in-Subscribed
returns-in_ok-insert-in-Subscribed c = λ g r b e.
    let a : IsAlive (follows_new g c.args.client (option_map id_data c.args.id.now) (string_bytes c.args.rel) c.in-Subscribed.number) c.follow.new.self =
    subst (λ z. IsAlive (follows_new g c.args.client (option_map id_data c.args.id.now) z c.in-Subscribed.number) c.follow.new.self) c.as_str.ensures.value
    (c.in_ok-follow-in-Subscribed.ensures g b) in
    IsAlive-feed_begun g c.args.client (option_map id_data c.args.id.now) c.args.session (string_bytes c.args.role)
    (string_bytes c.args.rel) c.in-Subscribed.number r
    _
    (ap opening_of e ∙ (sym c.opening_in.ensures ∙ c.in-Subscribed.is))
    (record { tokens = a.tokens; machine = a.machine; seats = a.seats; clients = a.clients; names = a.names; log = a.log; leads = a.leads; position = a.position; settled = a.settled; forgiven = a.forgiven; pending = a.pending; shape = a.shape; feeds = search rules })
