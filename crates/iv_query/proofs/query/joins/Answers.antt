use Rattle.std.proofs.Common.{◌≡◌, ◌-◌, ℕ, List, Some, None, length, map, sym, ap, refl, subst, ◌∙◌}
use Rattle.std.specs.Prelude.{true, false}
use Rattle.std.proofs.lemmas.List.{map_push, length-map}
use Rattle.std.proofs.lemmas.Result.{err_from_is_err_and}
use Rattle.iv_query.specs.Tokens.{Tok, toks}
use Rattle.iv_query.specs.Trees.{JoinTree, join_tree}
use Rattle.iv_query.specs.Parts.{push, starts_join, at_join}
use Rattle.iv_query.specs.Answers.{Fails}
use Rattle.iv_query.specs.QueryReading.{join_at}
use Rattle.iv_query.proofs.Loop.{goes_on, fails_there, is_last, is_done}
use Rattle.iv_query.proofs.query.joins.Goals as goal

none_begins : (ts : List Tok) → false ≡ starts_join ts → at_join ts ≡ None
none_begins ts e = rw (← e) refl

one_begins : (ts : List Tok) → true ≡ starts_join ts → at_join ts ≡ Some ts
one_begins ts e = rw (← e) refl

pub returns-then-not-starts_join : goal.returns-then-not-starts_join
returns-then-not-starts_join c = sym c.loop.invariant ∙ is_last at_join (λ (js : List JoinTree). join_at c.args.stop (c.args.left - length js)) push (length c.args.tokens.now - c.loop.counter) (map join_tree c.loop.list.items) (toks c.loop.rest.now) (none_begins (toks c.loop.rest.now) c.if-not-starts_join.ensures)

pub returns-in_err-next : goal.returns-in_err-next
returns-in_err-next c =
    let p = err_from_is_err_and c.from_residual.result c.from_residual.ensures.1 in
    let left : c.saturating_sub.result ≡ c.args.left - length (map join_tree c.loop.list.items) = c.saturating_sub.ensures ∙ ap (λ (n : ℕ). c.args.left - n) (c.len.ensures ∙ c.loop.list.ok.0 ∙ sym (length-map c.loop.list.items join_tree)) in
    rw (p.1, p.2) (fails_there at_join (λ (js : List JoinTree). join_at c.args.stop (c.args.left - length js)) push c.in_err-next.field-0.0 (length c.args.tokens.now) c.loop.counter (map join_tree c.loop.list.items) (toks c.loop.rest.now) (toks c.loop.rest.now) _ c.loop-test.true (one_begins (toks c.loop.rest.now) c.if-not-starts_join.ensures)
    (subst (λ (n : ℕ). Fails c.in_err-next.field-0.0 (join_at c.args.stop n (toks c.loop.rest.now))) left c.in_err-next.ensures) c.loop.invariant)

pub loop-preserved : goal.loop-preserved
loop-preserved c =
    let left : c.saturating_sub.result ≡ c.args.left - length (map join_tree c.loop.list.items) = c.saturating_sub.ensures ∙ ap (λ (n : ℕ). c.args.left - n) (c.len.ensures ∙ c.loop.list.ok.0 ∙ sym (length-map c.loop.list.items join_tree)) in
    rw (c.in_ok-push.ensures.items, map_push join_tree c.loop.list.items c.in_ok-next.next)
    (goes_on at_join (λ (js : List JoinTree). join_at c.args.stop (c.args.left - length js)) push (length c.args.tokens.now) c.loop.counter (map join_tree c.loop.list.items) (toks c.loop.rest.now) (toks c.loop.rest.now) (toks c.in_ok-next.behind.now) (join_tree c.in_ok-next.next) _ c.loop-test.true (one_begins (toks c.loop.rest.now) c.if-not-starts_join.ensures)
    (ap (λ (n : ℕ). join_at c.args.stop n (toks c.loop.rest.now)) (sym left) ∙ c.in_ok-next.ensures) c.loop.invariant)

pub returns : goal.returns
returns c = is_done at_join (λ (js : List JoinTree). join_at c.args.stop (c.args.left - length js)) push (length c.args.tokens.now) c.loop.counter (map join_tree c.loop.list.items) (toks c.loop.rest.now) _ c.loop-test.false c.loop.invariant
