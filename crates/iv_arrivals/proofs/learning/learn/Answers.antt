use Rattle.std.proofs.Common.{◌≡◌, ◌∙◌, ◌<◌, ◌+◌, List, [], ap, arith, length, rules, sym}
use Rattle.std.specs.Vec.Iter.{into_iter_items}
use Rattle.iv_once.specs.Names.{Named, Names}
use Rattle.iv_once.specs.Views.{names_of}
use Rattle.iv_gate.specs.Arriving.{first_known}
use Rattle.iv_store.proofs.RunLines.{nil-of_length_zero}
use Rattle.iv_arrivals.specs.Entering.{all_pushed}
use Rattle.iv_arrivals.proofs.StepParts.{learns_on, stops_at}
use Rattle.iv_arrivals.proofs.learning.learn.Goals as goal

pub overflow_add-place : goal.overflow_add-place
overflow_add-place c =
    let all = c.loop-name.invariant.2 in
    let next = ap (λ (ns : List Named). length ns) c.in-Some.ensures.steps.0 in
    let low : c.loop-name.place < length c.args.names.items = omega (arith, all, next) in
    search rules

pub loop-name-init : goal.loop-name-init
loop-name-init c =
    let items : into_iter_items c.into_iter-name-iterator.result ≡ c.args.names.items = search rules in (
      tt,
      tt,
      (let all = ap (λ (ns : List Named). length ns) items in omega (arith, all)),
      λ h. (h, ap (λ ns. first_known 1 ns (names_of c.args.known.now).known) (sym items)),
      ap (all_pushed (names_of c.args.known.now)) (sym items),
    )

pub loop-name-preserved : goal.loop-name-preserved
loop-name-preserved c =
    let n = c.in-Some.name in
    let rest = into_iter_items c.next.new.self in
    let next = c.in-Some.ensures.steps.0 in
    let known = names_of c.loop-name.known in
    let place = c.loop-name.place in (
      tt,
      tt,
      (let all = c.loop-name.invariant.2 in let many = ap (λ (ns : List Named). length ns) next in omega (arith, all, many)),
      λ h.
          let i = c.loop-name.invariant.3 h in (
            ap (λ (z : Names). z.limits) c.in_ok-push.ensures ∙ i.0,
            i.1 ∙ (ap (λ ns. first_known (place + 1) ns known.known) next
                ∙ learns_on place n rest known (names_of c.push.new.self) _ i.0 c.is_new.ensures c.if-not-is_new.false c.in_ok-push.ensures),
          ),
      c.loop-name.invariant.4 ∙ (ap (all_pushed known) next ∙ ap (λ z. all_pushed z rest) (sym c.in_ok-push.ensures)),
    )

pub returns-then-not-is_new-clause-first : goal.returns-then-not-is_new-clause-first
returns-then-not-is_new-clause-first c = λ h.
    let i = c.loop-name.invariant.3 h in
    let known = names_of c.loop-name.known in
    i.1 ∙ (ap (λ ns. first_known (c.loop-name.place + 1) ns known.known) c.in-Some.ensures.steps.0
    ∙ stops_at c.loop-name.place c.in-Some.name (into_iter_items c.next.new.self) known _ i.0 c.is_new.ensures c.if-not-is_new.true)

pub returns-clause-first : goal.returns-clause-first
returns-clause-first c = λ h.
    let none : into_iter_items c.loop-name.name-iterator ≡ [] = nil-of_length_zero (into_iter_items c.loop-name.name-iterator)
    (let empty = c.in-None.ensures.steps.0 in let ok = c.loop-name.name-iterator.rest.ok in omega (arith, empty, ok)) in
    (c.loop-name.invariant.3 h).1 ∙ ap (λ ns. first_known (c.loop-name.place + 1) ns (names_of c.loop-name.known).known) none

pub returns-clause-learned : goal.returns-clause-learned
returns-clause-learned c = λ e.
    let none : into_iter_items c.loop-name.name-iterator ≡ [] = nil-of_length_zero (into_iter_items c.loop-name.name-iterator)
    (let empty = c.in-None.ensures.steps.0 in let ok = c.loop-name.name-iterator.rest.ok in omega (arith, empty, ok)) in
    sym (c.loop-name.invariant.4 ∙ ap (all_pushed (names_of c.loop-name.known)) none)
