use Rattle.std.proofs.Common.{◌≡◌, ◌∙◌, option_map, ap, map, refl, rules, sym, subst}
use Rattle.std.specs.Prelude.{string_bytes}
use Rattle.iv_command.specs.Views.{line_of}
use Rattle.iv_machine.specs.Act.{subscribe}
use Rattle.iv_machine.specs.Machine.{step}
use Rattle.iv_message.specs.Seen.{id_data}
use Rattle.iv_gate.specs.Gate.{feed_begun, in_session, reply_in, reply_to}
use Rattle.iv_gateway.specs.Views.{IsRun, opening_of}
use Rattle.iv_gateway.proofs.NewSubscriptions.{IsRun-feed_begun}
use Rattle.iv_gateway.proofs.gateway.Gateway.subscribe.Goals as goal

pub returns-clause-gate : goal.returns-clause-gate
returns-clause-gate c = λ g b.
    let id = option_map id_data c.args.id.now in
    let role = string_bytes c.args.role in
    let rel = string_bytes c.args.rel in
    let k = in_session c.args.session (subscribe rel) in
    let same : string_bytes c.in_ok-name.name ≡ string_bytes c.args.rel = search rules in
    let run : IsRun g (in_session c.args.session (subscribe (string_bytes c.args.rel))) (map line_of c.in_ok-lines.lines.items) c.run.new.self =
    subst (λ z. IsRun g (in_session c.args.session (subscribe z)) (map line_of c.in_ok-lines.lines.items) c.run.new.self) same (c.in_ok-lines.ensures g b) in
    let begun =
    IsRun-feed_begun g c.args.client id c.args.session role rel (reply_to g k) (map line_of c.in_ok-lines.lines.items) c.begin_feed.new.self run.lines
    (c.in_ok-begin_feed.ensures (record g { machine = (step g.machine k).state }) (reply_to g k) run.gate
    (sym (ap (λ ls. reply_in (map line_of ls)) c.deref-2.ensures.value ∙ ap reply_in run.lines))) in
    c.in_ok-hear_plain.ensures (feed_begun g c.args.client id c.args.session role rel (reply_to g k)) k
    (record { lines = ap (map line_of) c.deref-3.ensures.value ∙ begun.lines; gate = begun.gate }) (λ f r. refl)

pub returns-clause-opening : goal.returns-clause-opening
returns-clause-opening c = λ g b.
    let same : string_bytes c.in_ok-name.name ≡ string_bytes c.args.rel = search rules in
    let run : IsRun g (in_session c.args.session (subscribe (string_bytes c.args.rel))) (map line_of c.in_ok-lines.lines.items) c.run.new.self =
    subst (λ z. IsRun g (in_session c.args.session (subscribe z)) (map line_of c.in_ok-lines.lines.items) c.run.new.self) same (c.in_ok-lines.ensures g b) in
    c.opening_in-opening.ensures ∙ (ap (λ ls. opening_of (reply_in (map line_of ls))) c.deref.ensures.value ∙ ap (λ ls. opening_of (reply_in ls)) run.lines)
