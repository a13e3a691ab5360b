use Rattle.std.proofs.Common.{◌≡◌, List, [], arith, rules, subst, sym}
use Rattle.std.specs.List.{AllByRecursion}
use Rattle.std.specs.Vec.Iter.{into_iter_items}
use Rattle.iv_records.specs.Journal.{IsRequest, Request}
use Rattle.iv_store.proofs.RunLines.{nil-of_length_zero}
use Rattle.iv_gateway.proofs.JournalReplays.{GoesOn, GoesOn-start, IsPassed-all_carried_false, GoesOn-next, IsPassed-GoesOn}
use Rattle.iv_gateway.proofs.gateway.Gateway.replay_requests.Goals as goal

pub replay_request-requires : goal.replay_request-requires
replay_request-requires c = (subst (AllByRecursion IsRequest) c.in-Some.ensures.steps.0 c.loop-request.invariant.2).0

pub loop-request-init : goal.loop-request-init
loop-request-init c =
    let items : into_iter_items c.into_iter-request-iterator.result ≡ c.args.requests.items = search rules in (
      tt,
      tt,
      subst (AllByRecursion IsRequest) (sym items) c.requires,
      λ g s es p b. subst (λ (qs : List Request). GoesOn g s es p c.args.requests.items qs c.args.self.now) (sym items) (GoesOn-start g s es p c.args.requests.items c.args.self.now b),
    )

pub loop-request-preserved : goal.loop-request-preserved
loop-request-preserved c =
    let q = c.in-Some.request in
    let rest = into_iter_items c.next.new.self in
    let next = c.in-Some.ensures.steps.0 in (
      tt,
      tt,
      (subst (AllByRecursion IsRequest) next c.loop-request.invariant.2).1,
      λ g s es p b.
          let w = subst (λ (qs : List Request). GoesOn g s es p c.args.requests.items qs c.loop-request.self) next (c.loop-request.invariant.3 g s es p b) in
          GoesOn-next g s es p c.args.requests.items rest q c.in_ok-replay_request.field-0 c.loop-request.self _ w
          (c.in_ok-replay_request.ensures g w.state es _ w.gate) c.if-not-branch.false,
    )

pub returns-then-not-branch : goal.returns-then-not-branch
returns-then-not-branch c = λ g s es p b.
    let q = c.in-Some.request in
    let rest = into_iter_items c.next.new.self in
    let next = c.in-Some.ensures.steps.0 in
    let w = subst (λ (qs : List Request). GoesOn g s es p c.args.requests.items qs c.loop-request.self) next (c.loop-request.invariant.3 g s es p b) in
    IsPassed-all_carried_false g s es p c.args.requests.items rest q c.in_ok-replay_request.field-0 c.loop-request.self _ w
    (c.in_ok-replay_request.ensures g w.state es _ w.gate) c.if-not-branch.true

pub returns : goal.returns
returns c = λ g s es p b.
    let none : into_iter_items c.loop-request.request-iterator ≡ [] = nil-of_length_zero (into_iter_items c.loop-request.request-iterator)
    (let empty = c.in-None.ensures.steps.0 in let ok = c.loop-request.request-iterator.rest.ok in omega (arith, empty, ok)) in
    IsPassed-GoesOn g s es p c.args.requests.items _ c.loop-request.self none (c.loop-request.invariant.3 g s es p b)
