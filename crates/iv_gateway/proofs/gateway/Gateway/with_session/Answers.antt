use Rattle.std.proofs.Common.{◌≡◌, ◌∙◌, ap, rules, subst, Some, None, false, is_some}
use Rattle.std.specs.Prelude.{string_bytes}
use Rattle.iv_clients.specs.Feeds.{seat_of}
use Rattle.iv_gateway.specs.Views.{IsSeated}
use Rattle.iv_gateway.proofs.RoleSessions.{IsAlive-not_seated, IsAlive-with_session_seated, IsAlive-with_session_there}
use Rattle.iv_gateway.proofs.gateway.Gateway.with_session.Goals as goal

pub returns-then-is_some : goal.returns-then-is_some
returns-then-is_some c = λ g b. IsAlive-with_session_there g c.args.role.now c.seat_of.result _
    (c.seat_of.ensures ∙ ap (λ s. seat_of s c.args.role.now) (c.deref.ensures.value ∙ b.seats)) (search rules) b

pub returns-in-None : goal.returns-in-None
returns-in-None c = λ g b.
    let same : string_bytes c.in_ok-name.name ≡ c.args.role.now = search rules in
    let free : is_some c.seat_of.result ≡ false = search rules in
    IsAlive-not_seated g c.args.role.now c.seat_of.result _ (c.seat_of.ensures ∙ ap (λ s. seat_of s c.args.role.now) (c.deref.ensures.value ∙ b.seats)) free
    (subst (λ z. IsSeated g z None c.sit.new.self) same (subst (λ o. IsSeated g (string_bytes c.in_ok-name.name) o c.sit.new.self) c.in-None.is
    (c.in_ok-sit.ensures g b)))

pub returns-in-Some : goal.returns-in-Some
returns-in-Some c = λ g b.
    let same : string_bytes c.in_ok-name.name ≡ c.args.role.now = search rules in
    let free : is_some c.seat_of.result ≡ false = search rules in
    IsAlive-with_session_seated g c.args.role.now c.seat_of.result c.in-Some.field-0 _
    (c.seat_of.ensures ∙ ap (λ s. seat_of s c.args.role.now) (c.deref.ensures.value ∙ b.seats)) free
    (subst (λ z. IsSeated g z (Some c.in-Some.field-0) c.sit.new.self) same
    (subst (λ o. IsSeated g (string_bytes c.in_ok-name.name) o c.sit.new.self) c.in-Some.is (c.in_ok-sit.ensures g b)))
