use Rattle.std.proofs.Common.{◌≡◌, List, [], arith, rules, subst, sym}
use Rattle.std.specs.Vec.Iter.{into_iter_items}
use Rattle.iv_once.specs.Names.{Named}
use Rattle.iv_store.proofs.RunLines.{nil-of_length_zero}
use Rattle.iv_gateway.proofs.JournalReplays.{AreLearning, AreLearning-start, AreNamesReplayed-not_new, AreLearning-next, AreNamesReplayed-AreLearning}
use Rattle.iv_gateway.proofs.gateway.Gateway.replay_names.Goals as goal

pub loop-name-init : goal.loop-name-init
loop-name-init c =
    let items : into_iter_items c.into_iter-name-iterator.result ≡ c.args.names.items = search rules in (
      tt,
      tt,
      λ g s es qs p b. subst (λ (ns : List Named). AreLearning g s es qs p c.args.names.items ns c.args.self.now) (sym items)
          (AreLearning-start g s es qs p c.args.names.items c.args.self.now b),
    )

pub loop-name-preserved : goal.loop-name-preserved
loop-name-preserved c =
    let n = c.in-Some.name in
    let rest = into_iter_items c.next.new.self in
    let next = c.in-Some.ensures.steps.0 in (
      tt,
      tt,
      λ g s es qs p b.
          let w = subst (λ (ns : List Named). AreLearning g s es qs p c.args.names.items ns c.loop-name.self) next (c.loop-name.invariant.2 g s es qs p b) in
          let r = c.in_ok-replay_name.ensures g s es _ w.gate in
          AreLearning-next g s es qs p c.args.names.items rest n c.in_ok-replay_name.field-0 c.loop-name.self _ w r.0 c.if-not-branch.false (r.1 c.if-not-branch.false),
    )

pub returns-then-not-branch : goal.returns-then-not-branch
returns-then-not-branch c = λ g s es qs p b.
    let n = c.in-Some.name in
    let rest = into_iter_items c.next.new.self in
    let next = c.in-Some.ensures.steps.0 in
    let w = subst (λ (ns : List Named). AreLearning g s es qs p c.args.names.items ns c.loop-name.self) next (c.loop-name.invariant.2 g s es qs p b) in
    let r = c.in_ok-replay_name.ensures g s es _ w.gate in
    AreNamesReplayed-not_new g s es qs p c.args.names.items rest n c.in_ok-replay_name.field-0 c.loop-name.self _ w r.0 c.if-not-branch.true

pub returns : goal.returns
returns c = λ g s es qs p b.
    let none : into_iter_items c.loop-name.name-iterator ≡ [] = nil-of_length_zero (into_iter_items c.loop-name.name-iterator)
    (let empty = c.in-None.ensures.steps.0 in let ok = c.loop-name.name-iterator.rest.ok in omega (arith, empty, ok)) in
    AreNamesReplayed-AreLearning g s es qs p c.args.names.items _ c.loop-name.self none (c.loop-name.invariant.2 g s es qs p b)
