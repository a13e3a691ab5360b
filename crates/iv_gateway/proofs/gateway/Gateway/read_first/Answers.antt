use Rattle.std.proofs.Common.{◌∙◌, option_map, sym}
use Rattle.std.specs.Prelude.{string_bytes}
use Rattle.iv_message.specs.Seen.{id_data}
use Rattle.iv_clients.specs.Feeds.{room_for}
use Rattle.iv_gateway.proofs.NewSubscriptions.{IsAlive-reads_first, IsAlive-reads_first_no_room}
use Rattle.iv_gateway.proofs.gateway.Gateway.read_first.Goals as goal

pub returns-in_ok-subscribe-in-Some : goal.returns-in_ok-subscribe-in-Some
returns-in_ok-subscribe-in-Some c = λ g b.
    let seats = c.deref.ensures.value ∙ b.seats in
    let feeds = c.deref-2.ensures.value ∙ b.feeds in
    IsAlive-reads_first g c.args.client (option_map id_data c.args.id.now) (string_bytes c.args.role) (string_bytes c.args.rel) c.in-Some.session _
    (sym (c.room_for.ensures ∙ (λ i. room_for (seats i) (feeds i) (c.as_str.ensures.value i))) ∙ c.in-Some.is)
    (c.in_ok-subscribe-in-Some.ensures.gate g b)

pub returns-in_ok-read_further-in-None : goal.returns-in_ok-read_further-in-None
returns-in_ok-read_further-in-None c = λ g b.
    let seats = c.deref.ensures.value ∙ b.seats in
    let feeds = c.deref-2.ensures.value ∙ b.feeds in
    IsAlive-reads_first_no_room g c.args.client (option_map id_data c.args.id.now) (string_bytes c.args.role) (string_bytes c.args.rel) _
    (sym (c.room_for.ensures ∙ (λ i. room_for (seats i) (feeds i) (c.as_str.ensures.value i))) ∙ c.in-None.is)
    (c.in_ok-read_further-in-None.ensures g b)
