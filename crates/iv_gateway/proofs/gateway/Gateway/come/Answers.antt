use Rattle.std.proofs.Common.{◌≡◌, ◌∙◌, Some, ap, set, sym, subst}
use Rattle.std.specs.Prelude.{option_map, string_bytes}
use Rattle.sha2.specs.Sha256.{sha256}
use Rattle.iv_clients.specs.Clients.{fresh}
use Rattle.iv_clients.specs.Tokens.{Token}
use Rattle.iv_gate.specs.Gate.{at_text, has_session, with_session}
use Rattle.iv_gateway.specs.Views.{IsAlive}
use Rattle.iv_gateway.proofs.TokenEntries.{IsAlive-came_as, IsAlive-came_none, IsAlive-came_no_session, presented_by-token_of}
use Rattle.iv_gateway.proofs.gateway.Gateway.come.Goals as goal

pub returns-in-None : goal.returns-in-None
returns-in-None c = λ g b.
    let digest : c.in_ok-digest.digest.items ≡ sha256 c.args.token.now = c.in_ok-digest.ensures.items ∙ c.digest.ensures in
    IsAlive-came_none g c.args.client c.args.token.now _
    (presented_by-token_of g c.args.client c.args.token.now c.deref.result.now c.args.self.now.clients c.deref-2.result.now _ (c.deref.ensures.value ∙ b.tokens)
    b.clients (c.deref-2.ensures.value ∙ digest) c.in_ok-presented.ensures
    ∙ ap (option_map (λ p. record { digest = c.deref-2.result.now; role = string_bytes p.0; user = string_bytes p.1 })) c.in-None.is) b

pub returns-then-not-branch : goal.returns-then-not-branch
returns-then-not-branch c = λ g b.
    let digest : c.in_ok-digest.digest.items ≡ sha256 c.args.token.now = c.in_ok-digest.ensures.items ∙ c.digest.ensures in
    let t : Token = record { digest = c.deref-2.result.now; role = string_bytes c.in-Some.role; user = string_bytes c.in-Some.user } in
    let s = c.in_ok-with_session-in-Some.ensures g b in
    IsAlive-came_no_session g c.args.client c.args.token.now t _
    (presented_by-token_of g c.args.client c.args.token.now c.deref.result.now c.args.self.now.clients c.deref-2.result.now _ (c.deref.ensures.value ∙ b.tokens)
    b.clients (c.deref-2.ensures.value ∙ digest) c.in_ok-presented.ensures
    ∙ ap (option_map (λ p. record { digest = c.deref-2.result.now; role = string_bytes p.0; user = string_bytes p.1 })) c.in-Some.is)
    (ap (has_session g) (sym c.as_str.ensures.value) ∙ (sym s.0 ∙ c.if-not-branch.true))
    (subst (λ r. IsAlive (with_session g r) c.with_session.new.self) c.as_str.ensures.value s.1)

pub returns-in_ok-enter-in-Some : goal.returns-in_ok-enter-in-Some
returns-in_ok-enter-in-Some c = λ g b.
    let digest : c.in_ok-digest.digest.items ≡ sha256 c.args.token.now = c.in_ok-digest.ensures.items ∙ c.digest.ensures in
    let t : Token = record { digest = c.deref-2.result.now; role = string_bytes c.in-Some.role; user = string_bytes c.in-Some.user } in
    let s = c.in_ok-with_session-in-Some.ensures g b in
    let h = with_session g (string_bytes c.in-Some.role) in
    let there : IsAlive h c.with_session.new.self =
    subst (λ r. IsAlive (with_session g r) c.with_session.new.self) c.as_str.ensures.value s.1 in
    IsAlive-came_as g c.args.client c.args.token.now t _
    (presented_by-token_of g c.args.client c.args.token.now c.deref.result.now c.args.self.now.clients c.deref-2.result.now _ (c.deref.ensures.value ∙ b.tokens)
    b.clients (c.deref-2.ensures.value ∙ digest) c.in_ok-presented.ensures
    ∙ ap (option_map (λ p. record { digest = c.deref-2.result.now; role = string_bytes p.0; user = string_bytes p.1 })) c.in-Some.is)
    (ap (has_session g) (sym c.as_str.ensures.value) ∙ (sym s.0 ∙ c.if-not-branch.false))
    (subst (λ d. let u : Token = record { digest = d; role = string_bytes c.in-Some.role; user = string_bytes c.in-Some.user } in
    IsAlive (record h { clients = set h.clients c.args.client (Some (fresh h.entries u (at_text h u))) }) c.enter.new.self)
    (sym c.deref-2.ensures.value) (c.in_ok-enter-in-Some.ensures h there))
