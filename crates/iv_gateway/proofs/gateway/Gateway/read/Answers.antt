use Rattle.std.proofs.Common.{◌∙◌, ℕ, option_map, sym}
use Rattle.std.specs.Prelude.{string_bytes}
use Rattle.iv_message.specs.Seen.{id_data}
use Rattle.iv_clients.specs.Feeds.{feed_for}
use Rattle.iv_gateway.proofs.NewSubscriptions.{place, IsAlive-reads_full, IsAlive-reads_new, IsAlive-reads_shared}
use Rattle.iv_gateway.proofs.gateway.Gateway.read.Goals as goal

pub returns-then-not-has_place : goal.returns-then-not-has_place
returns-then-not-has_place c = λ g x b e l.
    IsAlive-reads_full g c.args.client x (option_map id_data c.args.id.now) c.args.subs (string_bytes c.args.role) (string_bytes c.args.rel) _ e l
    (sym c.has_place.ensures ∙ c.if-not-has_place.true) (c.in_ok-reply_full.ensures g b)

pub returns-in_ok-join_shared-in-Some : goal.returns-in_ok-join_shared-in-Some
returns-in_ok-join_shared-in-Some c = λ g x b e l.
    let feeds = c.deref.ensures.value ∙ b.feeds in
    IsAlive-reads_shared g c.args.client x (option_map id_data c.args.id.now) c.args.subs (string_bytes c.args.role) (string_bytes c.args.rel) c.in-Some.session
    c.in-Some.number _ e l
    (sym c.has_place.ensures ∙ c.if-not-has_place.false)
    (sym (c.shared_for.ensures ∙ (λ i. option_map {U = ℕ × ℕ} place (feed_for (feeds i) (c.as_str.ensures.value i) (c.as_str-2.ensures.value i))))
    ∙ c.in-Some.is)
    (c.in_ok-join_shared-in-Some.ensures g b)

pub returns-in_ok-read_first-in-None : goal.returns-in_ok-read_first-in-None
returns-in_ok-read_first-in-None c = λ g x b e l.
    let feeds = c.deref.ensures.value ∙ b.feeds in
    IsAlive-reads_new g c.args.client x (option_map id_data c.args.id.now) c.args.subs (string_bytes c.args.role) (string_bytes c.args.rel) _ e l
    (sym c.has_place.ensures ∙ c.if-not-has_place.false)
    (sym (c.shared_for.ensures ∙ (λ i. option_map {U = ℕ × ℕ} place (feed_for (feeds i) (c.as_str.ensures.value i) (c.as_str-2.ensures.value i))))
    ∙ c.in-None.is)
    (c.in_ok-read_first-in-None.ensures g b)
