use Rattle.std.proofs.Common.{◌≡◌, ◌∙◌, ◌++◌, [], cond, ap, map, refl, rules, sym}
use Rattle.iv_command.specs.Views.{act_of, line_of}
use Rattle.iv_gate.specs.Gate.{is_accepted, reply_in}
use Rattle.iv_arrivals.specs.Entering.{made_of, shape_in}
use Rattle.iv_arrivals.specs.Speaking.{request_of}
use Rattle.iv_gateway.proofs.AddedEntries.{shape_text-entries_of}
use Rattle.iv_gateway.proofs.gateway.Gateway.request_in.Goals as goal

pub returns : goal.returns
returns c = λ g b.
    let role : c.asked.inside.role.now ≡ c.args.asked.now.role = search rules in
    let line : c.asked.inside.line.now ≡ c.args.asked.now.line = search rules in
    let shape : c.push_shape.new.text.items ≡ shape_in (request_of c.args.asked.now (act_of c.args.act)) =
    c.in_ok-push_shape.ensures ∙ (λ i. c.new-made.ensures.items i ++ shape_in (record { role = role i; line = line i; act = act_of c.args.act })) in
    let made : c.deref-2.result.now ≡ made_of c.args.asked.now (act_of c.args.act) c.args.name (reply_in (map line_of c.deref-3.result.now)) =
    c.deref-2.ensures.value ∙ (c.clear_refused.ensures
    ∙ ((λ i. cond (is_accepted (reply_in (map line_of ((c.deref.ensures.value ∙ sym c.deref-3.ensures.value) i)))) (shape i) [])
    ∙ shape_text-entries_of (request_of c.args.asked.now (act_of c.args.act)) c.args.name (reply_in (map line_of c.deref-3.result.now))
    (is_accepted (reply_in (map line_of c.deref-3.result.now))) c.requires.shared refl)) in
    let run = c.in_ok-lines.ensures g b in
    c.in_ok-tell_request.ensures g (act_of c.args.act) c.args.session (record { lines = ap (map line_of) c.deref-3.ensures.value ∙ run.lines; gate = run.gate })
    c.requires.shared made c.in_ok-grants.ensures
