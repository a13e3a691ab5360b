use Rattle.std.proofs.Common.{◌≡◌, ◌∙◌, false, [], ◌∷◌, ◌++◌, ap, rules, subst, sym}
use Rattle.std.specs.Prelude.{string_bytes}
use Rattle.iv_rows.specs.Names.{is_name}
use Rattle.iv_machine.specs.Act.{begin}
use Rattle.iv_machine.specs.Well.{is_well_act}
use Rattle.iv_command.specs.Views.{act_of}
use Rattle.iv_records.specs.Journal.{IsRequest, Request}
use Rattle.iv_steps.specs.Steps.{carried, passed}
use Rattle.iv_gate.specs.Arriving.{fact_of}
use Rattle.iv_gate.specs.Gate.{Gate}
use Rattle.iv_gateway.specs.Replays.{IsPassed, behind, with_request}
use Rattle.iv_arrivals.specs.Entering.{shape_in}
use Rattle.iv_gateway.proofs.JournalReplays.{PassesTo, AreKept-with_request, is_well_act-IsRequest, IsPassed-finish, IsPassed-not_accepted, IsPassed-not_begun, PassesTo-IsPassed}
use Rattle.iv_gateway.proofs.gateway.Gateway.replay_request.Goals as goal

pub pass-requires : goal.pass-requires
pass-requires c =
    let role : string_bytes c.request.inside.role ≡ c.args.request.role = search rules in
    ap is_name role ∙ c.requires.role

pub pass-requires-2 : goal.pass-requires-2
pass-requires-2 c =
    let act : act_of c.request.inside.act ≡ c.args.request.act = search rules in
    ap is_well_act act ∙ is_well_act-IsRequest c.requests_are_well.ensures c.args.request c.requires

pub returns-then-not-branch : goal.returns-then-not-branch
returns-then-not-branch c = λ g s es e b.
    let q : Request = record { role = string_bytes c.request.inside.role; line = c.request.inside.line.items; act = act_of c.request.inside.act } in
    let h : Gate = behind g s (es ++ with_request e q ∷ []) in
    let shared = (subst IsRequest (sym c.request.view_is) c.requires).shared in
    let began = c.in_ok-pass.ensures h (AreKept-with_request g s es e q c.push_shape.new.text c.args.self.now b (c.in_ok-push_shape.ensures
    ∙ (λ i. c.args.self.now.shape.items ++ shape_in (record { role = c.as_str.ensures.value i; line = c.deref.ensures.value i; act = q.act })))) in
    subst (λ (r : Request). IsPassed (behind g s (es ++ with_request e r ∷ [])) (carried (fact_of r) s) false c.pass.new.self) c.request.view_is
    (IsPassed-not_begun h q c.in_ok-pass.field-0 c.pass.new.self c.pass.new.self shared began c.if-not-branch.true)

pub returns-then-not-branch-2 : goal.returns-then-not-branch-2
returns-then-not-branch-2 c = λ g s es e b.
    let q : Request = record { role = string_bytes c.request.inside.role; line = c.request.inside.line.items; act = act_of c.request.inside.act } in
    let h : Gate = behind g s (es ++ with_request e q ∷ []) in
    let shared = (subst IsRequest (sym c.request.view_is) c.requires).shared in
    let began = c.in_ok-pass.ensures h (AreKept-with_request g s es e q c.push_shape.new.text c.args.self.now b (c.in_ok-push_shape.ensures
    ∙ (λ i. c.args.self.now.shape.items ++ shape_in (record { role = c.as_str.ensures.value i; line = c.deref.ensures.value i; act = q.act })))) in
    let p : PassesTo h (passed (begin q.role) s) c.pass.new.self =
    PassesTo-IsPassed h (passed (begin q.role) s) c.in_ok-pass.field-0 c.pass.new.self began c.if-not-branch.false in
    subst (λ (r : Request). IsPassed (behind g s (es ++ with_request e r ∷ [])) (carried (fact_of r) s) false c.pass-2.new.self) c.request.view_is
    (IsPassed-not_accepted h q c.in_ok-pass-2.field-0 c.pass.new.self c.pass-2.new.self c.pass-2.new.self shared p
    (c.in_ok-pass-2.ensures (record h { machine = p.state }) p.gate) c.if-not-branch-2.true)

pub returns : goal.returns
returns c = λ g s es e b.
    let q : Request = record { role = string_bytes c.request.inside.role; line = c.request.inside.line.items; act = act_of c.request.inside.act } in
    let h : Gate = behind g s (es ++ with_request e q ∷ []) in
    let shared = (subst IsRequest (sym c.request.view_is) c.requires).shared in
    let began = c.in_ok-pass.ensures h (AreKept-with_request g s es e q c.push_shape.new.text c.args.self.now b (c.in_ok-push_shape.ensures
    ∙ (λ i. c.args.self.now.shape.items ++ shape_in (record { role = c.as_str.ensures.value i; line = c.deref.ensures.value i; act = q.act })))) in
    let p : PassesTo h (passed (begin q.role) s) c.pass.new.self =
    PassesTo-IsPassed h (passed (begin q.role) s) c.in_ok-pass.field-0 c.pass.new.self began c.if-not-branch.false in
    let d : PassesTo (record h { machine = p.state }) (passed q.act p.state) c.pass-2.new.self =
    PassesTo-IsPassed (record h { machine = p.state }) (passed q.act p.state) c.in_ok-pass-2.field-0 c.pass-2.new.self
    (c.in_ok-pass-2.ensures (record h { machine = p.state }) p.gate) c.if-not-branch-2.false in
    subst (λ (r : Request). IsPassed (behind g s (es ++ with_request e r ∷ [])) (carried (fact_of r) s) c.in_ok-is_finished.is_finished c.pass-3.new.self) c.request.view_is
    (IsPassed-finish h q c.in_ok-is_finished.is_finished c.pass.new.self c.pass-2.new.self c.pass-3.new.self shared p d
    (c.in_ok-is_finished.ensures (record h { machine = d.state }) d.gate))
