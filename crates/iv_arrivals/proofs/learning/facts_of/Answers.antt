use Rattle.std.proofs.Common.{◌≡◌, ◌∙◌, ◌++◌, List, [], ap, append-nil, arith, map, rules, subst, sym}
use Rattle.std.specs.Prelude.{flat_map, string_bytes}
use Rattle.std.specs.Vec.Iter.{into_iter_items}
use Rattle.iv_command.specs.Views.{act_of}
use Rattle.iv_records.specs.Journal.{Request}
use Rattle.iv_store.proofs.RunLines.{nil-of_length_zero}
use Rattle.iv_gate.specs.Arriving.{fact_of}
use Rattle.iv_arrivals.specs.Entering.{shape_in}
use Rattle.iv_arrivals.proofs.StepParts.{facts_on, makes_on}
use Rattle.iv_arrivals.proofs.learning.facts_of.Goals as goal

pub loop-request-init : goal.loop-request-init
loop-request-init c =
    let items : into_iter_items c.into_iter-request-iterator.result ≡ c.args.requests.items = search rules in (
      tt,
      tt,
      ap (λ (qs : List Request). map fact_of qs) (sym items)
          ∙ ap (λ z. z ++ map fact_of (into_iter_items c.into_iter-request-iterator.result)) (sym c.new-facts.ensures.items),
      ap (λ (qs : List Request). c.args.made.now.items ++ flat_map shape_in qs) (sym items),
    )

pub loop-request-preserved : goal.loop-request-preserved
loop-request-preserved c =
    let all = c.args.requests.items in
    let rest = into_iter_items c.next.new.self in
    let next = c.in-Some.ensures.steps.0 in
    let q : Request = record { role = string_bytes c.request.inside.role; line = c.request.inside.line.items; act = act_of c.request.inside.act } in
    let more = c.in_ok-push_shape.ensures
    ∙ (λ i. c.loop-request.made.items ++ shape_in (record { role = c.as_str.ensures.value i; line = c.deref.ensures.value i; act = q.act })) in (
      tt,
      tt,
      facts_on all rest q c.in-Some.request c.loop-request.facts.items _ c.request.view_is
          (subst (λ (qs : List Request). map fact_of all ≡ c.loop-request.facts.items ++ map fact_of qs) next c.loop-request.invariant.2)
          c.in_ok-push.ensures.items,
      makes_on all rest q c.in-Some.request c.args.made.now.items c.loop-request.made.items _ c.request.view_is
          (subst (λ (qs : List Request). c.args.made.now.items ++ flat_map shape_in all ≡ c.loop-request.made.items ++ flat_map shape_in qs) next c.loop-request.invariant.3)
          more,
    )

pub returns-clause-facts : goal.returns-clause-facts
returns-clause-facts c =
    let none : into_iter_items c.loop-request.request-iterator ≡ [] = nil-of_length_zero (into_iter_items c.loop-request.request-iterator)
    (let empty = c.in-None.ensures.steps.0 in let ok = c.loop-request.request-iterator.rest.ok in omega (arith, empty, ok)) in
    sym (c.loop-request.invariant.2 ∙ (ap (λ (qs : List Request). c.loop-request.facts.items ++ map fact_of qs) none ∙ append-nil c.loop-request.facts.items))

pub returns-clause-made : goal.returns-clause-made
returns-clause-made c =
    let none : into_iter_items c.loop-request.request-iterator ≡ [] = nil-of_length_zero (into_iter_items c.loop-request.request-iterator)
    (let empty = c.in-None.ensures.steps.0 in let ok = c.loop-request.request-iterator.rest.ok in omega (arith, empty, ok)) in
    sym (c.loop-request.invariant.3 ∙ (ap (λ (qs : List Request). c.loop-request.made.items ++ flat_map shape_in qs) none ∙ append-nil c.loop-request.made.items))
