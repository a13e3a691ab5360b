use Rattle.std.proofs.Common.{◌≡◌, ◌∙◌, ◌<◌, List, [], ap, arith, length, refl, rules, subst, sym}
use Rattle.std.specs.List.{list_all}
use Rattle.std.specs.Vec.Iter.{into_iter_items}
use Rattle.iv_steps.specs.Steps.{Fact, is_well_fact}
use Rattle.iv_store.proofs.RunLines.{nil-of_length_zero}
use Rattle.iv_command.specs.Views.{refusal_of}
use Rattle.std.specs.Prelude.{Err}
use Rattle.iv_command.specs.declared.stop.Stop.{Stop}
use Rattle.iv_engine.specs.Carried.{IsCarried}
use Rattle.iv_engine.specs.Stepped.{is_write}
use Rattle.iv_engine.proofs.Carried.{GoesOn, is_write-AreWrites, AreCarriedTo-GoesOn, one_further, one_stops, is_well_fact-first, list_all-is_well_fact}
use Rattle.iv_engine.proofs.facts.carry_all.Goals as goal

pub overflow_add-place : goal.overflow_add-place
overflow_add-place c =
    let all = c.loop-fact.invariant.3 in
    let next = ap (λ (fs : List Fact). length fs) c.in-Some.ensures.steps.0 in
    let low : c.loop-fact.place < length c.args.facts.items = omega (arith, all, next) in
    search rules

pub carry-requires-clause-well : goal.carry-requires-clause-well
carry-requires-clause-well c = is_well_fact-first c.in-Some.fact (into_iter_items c.next.new.self) (sym (ap (list_all is_well_fact) c.in-Some.ensures.steps.0) ∙ c.loop-fact.invariant.2)

pub carry-requires-clause-sound : goal.carry-requires-clause-sound
carry-requires-clause-sound c = c.loop-fact.invariant.4.sound

pub carry-requires-clause-empty : goal.carry-requires-clause-empty
carry-requires-clause-empty c = c.loop-fact.invariant.4.empty

pub carry-requires-clause-sums : goal.carry-requires-clause-sums
carry-requires-clause-sums c = record { before = c.args.store.now; stored = c.requires.sound.stored.database; are = c.loop-fact.invariant.6 }

pub loop-fact-init : goal.loop-fact-init
loop-fact-init c =
    let items : into_iter_items c.into_iter-fact-iterator.result ≡ c.args.facts.items = search rules in (
      tt,
      tt,
      ap (list_all is_well_fact) items ∙ c.requires.well,
      (let all = ap (λ (fs : List Fact). length fs) items in omega (arith, all)),
      record { sound = c.requires.sound; empty = c.requires.empty },
      λ s b. subst (λ (fs : List Fact). GoesOn s c.args.facts.items 0 fs c.args.store.now) (sym items) (record { state = s; behind = b; carries = refl; refuses = refl }),
      c.requires.sums,
      λ writes. (refl, ap (list_all (λ f. is_write f.act)) items ∙ writes),
    )

pub loop-fact-preserved : goal.loop-fact-preserved
loop-fact-preserved c =
    let f = c.in-Some.fact in
    let rest = into_iter_items c.next.new.self in
    let next = c.in-Some.ensures.steps.0 in
    let place = c.loop-fact.place in (
      tt,
      tt,
      list_all-is_well_fact f rest (sym (ap (list_all is_well_fact) next) ∙ c.loop-fact.invariant.2),
      (let all = c.loop-fact.invariant.3 in let many = ap (λ (fs : List Fact). length fs) next in omega (arith, all, many)),
      c.in-Ok.ensures.carried.0,
      λ s b.
          let g = subst (λ (fs : List Fact). GoesOn s c.args.facts.items place fs c.loop-fact.store) next (c.loop-fact.invariant.5 s b) in
          one_further s c.args.facts.items place f rest c.loop-fact.store g c.carry.new.store (c.in-Ok.ensures.carried.1 g.state g.behind),
      c.in-Ok.ensures.sums c.args.store.now c.requires.sound.stored.database c.loop-fact.invariant.6,
      λ writes.
          let all = c.loop-fact.invariant.7 writes in
          let both = is_write-AreWrites f rest (sym (ap (list_all (λ g. is_write g.act)) next) ∙ all.1) in
          (c.in-Ok.ensures.others both.0 ∙ all.0, both.1),
    )

pub returns-in-Err-Refused-clause-carried : goal.returns-in-Err-Refused-clause-carried
returns-in-Err-Refused-clause-carried c = λ s b.
    let f = c.in-Some.fact in
    let rest = into_iter_items c.next.new.self in
    let place = c.loop-fact.place in
    let g = subst (λ (fs : List Fact). GoesOn s c.args.facts.items place fs c.loop-fact.store) c.in-Some.ensures.steps.0 (c.loop-fact.invariant.5 s b) in
    let refused = subst (λ (x : Stop). IsCarried c.loop-fact.store f (Err x) c.carry.new.store) c.in-Err-Refused.field-0-is c.in-Err-Refused.ensures.carried in
    one_stops s c.args.facts.items place f rest c.loop-fact.store g (refusal_of c.in-Err-Refused.refusal) (refused g.state g.behind)

pub returns-clause-carried : goal.returns-clause-carried
returns-clause-carried c =
    let none : into_iter_items c.loop-fact.fact-iterator ≡ [] = nil-of_length_zero (into_iter_items c.loop-fact.fact-iterator) (let empty = c.in-None.ensures.steps.0 in let ok = c.loop-fact.fact-iterator.rest.ok in omega (arith, empty, ok)) in (
      c.loop-fact.invariant.4,
      λ s b. AreCarriedTo-GoesOn s c.args.facts.items c.loop-fact.place (into_iter_items c.loop-fact.fact-iterator) c.loop-fact.store none
          (c.loop-fact.invariant.5 s b),
    )

pub returns-clause-sums : goal.returns-clause-sums
returns-clause-sums c = c.loop-fact.invariant.6

pub returns-clause-others : goal.returns-clause-others
returns-clause-others c = λ writes. (c.loop-fact.invariant.7 writes).0
