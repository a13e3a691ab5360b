use Rattle.std.proofs.Common.{◌≡◌, None, Some, option_map, rules, subst}
use Rattle.std.specs.Prelude.{string_bytes}
use Rattle.iv_message.specs.Seen.{id_data}
use Rattle.iv_gate.specs.Gate.{seated}
use Rattle.iv_gateway.specs.Views.{IsSeated}
use Rattle.iv_gateway.proofs.NewSubscriptions.{IsAlive-reads_further, IsAlive-reads_further_unseated}
use Rattle.iv_gateway.proofs.gateway.Gateway.read_further.Goals as goal

pub returns-in_ok-reply_full-in-None : goal.returns-in_ok-reply_full-in-None
returns-in_ok-reply_full-in-None c = λ g b.
    let same : string_bytes c.in_ok-name.name ≡ string_bytes c.args.role = search rules in
    let sat : IsSeated g (string_bytes c.args.role) None c.sit.new.self =
    subst (λ z. IsSeated g z None c.sit.new.self) same (subst (λ o. IsSeated g (string_bytes c.in_ok-name.name) o c.sit.new.self) c.in-None.is
    (c.in_ok-sit.ensures g b)) in
    IsAlive-reads_further_unseated g c.args.client (option_map id_data c.args.id.now) (string_bytes c.args.role) (string_bytes c.args.rel) _ sat.0
    (c.in_ok-reply_full-in-None.ensures g sat.1)

pub returns-in_ok-subscribe-in-Some : goal.returns-in_ok-subscribe-in-Some
returns-in_ok-subscribe-in-Some c = λ g b.
    let same : string_bytes c.in_ok-name.name ≡ string_bytes c.args.role = search rules in
    let sat : IsSeated g (string_bytes c.args.role) (Some c.in-Some.session) c.sit.new.self =
    subst (λ z. IsSeated g z (Some c.in-Some.session) c.sit.new.self) same
    (subst (λ o. IsSeated g (string_bytes c.in_ok-name.name) o c.sit.new.self) c.in-Some.is (c.in_ok-sit.ensures g b)) in
    IsAlive-reads_further g c.args.client (option_map id_data c.args.id.now) (string_bytes c.args.role) (string_bytes c.args.rel) c.in-Some.session _ sat.0
    (c.in_ok-subscribe-in-Some.ensures.gate (seated g c.in-Some.session (string_bytes c.args.role)) sat.1)
