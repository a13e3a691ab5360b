use Rattle.std.proofs.Common.{◌∙◌, ap, false, subst, sym}
use Rattle.std.specs.Prelude.{◌==◌, ◌&&◌, IfErr, nat_le, nat_lt}
use Rattle.iv_rows.specs.Options.{if_some}
use Rattle.iv_gate.specs.Arriving.{is_log}
use Rattle.iv_gate.specs.Gate.{Gate}
use Rattle.iv_gateway.specs.Arriving.{IsFaultOf, IsNotLanded}
use Rattle.iv_gateway.specs.Views.{IsAlive}
use Rattle.iv_gateway.proofs.Landed.{err_gives, has_gap, has_landed, is_led, not_landed, of_another, IsAlive-was_taken}
use Rattle.iv_gateway.proofs.gateway.Gateway.follow_step.Goals as goal

pub returns-then-self-clause-fault : goal.returns-then-self-clause-fault
returns-then-self-clause-fault c = λ g b. is_led g c.args.step (sym b.leads ∙ c.if-self.true)

pub returns-then-not-is_of-clause-fault : goal.returns-then-not-is_of-clause-fault
returns-then-not-is_of-clause-fault c = λ g b.
    let s = c.args.step in
    of_another g s (sym b.leads ∙ c.if-self.false) (sym (ap (λ l. if_some l false (is_log s.log)) b.log) ∙ (sym c.is_of.ensures ∙ c.if-not-is_of.true))

pub returns-then-is_past-clause-gate : goal.returns-then-is_past-clause-gate
returns-then-is_past-clause-gate c = λ g b.
    let s = c.args.step in
    let ours = sym (ap (λ l. if_some l false (is_log s.log)) b.log) ∙ (sym c.is_of.ensures ∙ c.if-not-is_of.false) in
    let past = sym (ap (λ p. nat_le s.to p) b.position) ∙ (sym c.is_past.ensures ∙ c.if-is_past.true) in
    IsAlive-was_taken g s _ (sym b.leads ∙ c.if-self.false) ours past b

pub returns-then-not-is_next-clause-fault : goal.returns-then-not-is_next-clause-fault
returns-then-not-is_next-clause-fault c = λ g b.
    let s = c.args.step in
    let ours = sym (ap (λ l. if_some l false (is_log s.log)) b.log) ∙ (sym c.is_of.ensures ∙ c.if-not-is_of.false) in
    let past = sym (ap (λ p. nat_le s.to p) b.position) ∙ (sym c.is_past.ensures ∙ c.if-is_past.false) in
    let next = sym (ap (λ p. (s.from == p) && nat_lt s.from s.to) b.position) ∙ (sym c.is_next.ensures ∙ c.if-not-is_next.true) in
    has_gap g s c.args.self.now.position (sym b.leads ∙ c.if-self.false) ours past next b.position

pub returns-in_err-land-clause-fault : goal.returns-in_err-land-clause-fault
returns-in_err-land-clause-fault c =
    err_gives c.from_residual.result _ (λ r. IfErr r (λ f. (g : Gate) → IsAlive g c.args.self.now → IsFaultOf g c.args.step f)) c.from_residual.ensures.1
    (λ f is g b.
    let s = c.args.step in
    let ours = sym (ap (λ l. if_some l false (is_log s.log)) b.log) ∙ (sym c.is_of.ensures ∙ c.if-not-is_of.false) in
    let past = sym (ap (λ p. nat_le s.to p) b.position) ∙ (sym c.is_past.ensures ∙ c.if-is_past.false) in
    let next = sym (ap (λ p. (s.from == p) && nat_lt s.from s.to) b.position) ∙ (sym c.is_next.ensures ∙ c.if-not-is_next.false) in
    not_landed g s f (sym b.leads ∙ c.if-self.false) ours past next (subst (λ z. IsNotLanded g s z) (sym is) (c.in_err-land.ensures.fault g b)))

pub returns-clause-gate : goal.returns-clause-gate
returns-clause-gate c = λ g b.
    let s = c.args.step in
    let ours = sym (ap (λ l. if_some l false (is_log s.log)) b.log) ∙ (sym c.is_of.ensures ∙ c.if-not-is_of.false) in
    let past = sym (ap (λ p. nat_le s.to p) b.position) ∙ (sym c.is_past.ensures ∙ c.if-is_past.false) in
    let next = sym (ap (λ p. (s.from == p) && nat_lt s.from s.to) b.position) ∙ (sym c.is_next.ensures ∙ c.if-not-is_next.false) in
    has_landed g s _ (sym b.leads ∙ c.if-self.false) ours past next (c.in_ok-land.ensures.landed g b)
