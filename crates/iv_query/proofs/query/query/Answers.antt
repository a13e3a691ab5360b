use Rattle.std.proofs.Common.{◌≡◌, ◌+◌, ◌-◌, ℕ, List, Some, None, true, false, length, sym, ap, refl, subst, ◌∙◌, arith}
use Rattle.iv_query.specs.Tokens.{Tok, toks}
use Rattle.iv_query.specs.Trees.{QueryTree, select_tree, query_tree}
use Rattle.iv_query.specs.Answers.{Fails}
use Rattle.iv_query.specs.Parts.{starts_set_op, at_set_op, NextOf, combine, sources_in, sources_of}
use Rattle.iv_query.specs.QueryReading.{next_at}
use Rattle.iv_query.proofs.Loop.{goes_on, fails_there, is_last, is_done}
use Rattle.iv_query.proofs.query.query.Goals as goal

none_begins : (ts : List Tok) → false ≡ starts_set_op ts → at_set_op ts ≡ None
none_begins ts e = rw (← e) refl

one_begins : (ts : List Tok) → true ≡ starts_set_op ts → at_set_op ts ≡ Some ts
one_begins ts e = rw (← e) refl

pub returns-then-not-starts_set_op : goal.returns-then-not-starts_set_op
returns-then-not-starts_set_op c = sym c.loop.invariant.so_far ∙ is_last at_set_op (λ (q : QueryTree). next_at c.args.stop (8 - sources_of q)) combine (length c.in_ok-first.rest.now - c.loop.counter) (query_tree c.loop.query) (toks c.loop.rest.now) (none_begins (toks c.loop.rest.now) c.if-not-starts_set_op.ensures)

pub returns-in-Err : goal.returns-in-Err
returns-in-Err c =
    fails_there at_set_op (λ (q : QueryTree). next_at c.args.stop (8 - sources_of q)) combine c.in-Err.fault (length c.in_ok-first.rest.now) c.loop.counter (query_tree c.loop.query) (toks c.loop.rest.now) (toks c.loop.rest.now) _ c.loop-test.true (one_begins (toks c.loop.rest.now) c.if-not-starts_set_op.ensures)
    (subst (λ (n : ℕ). Fails c.in-Err.fault (next_at c.args.stop n (toks c.loop.rest.now))) c.loop.invariant.counted c.in-Err.ensures) c.loop.invariant.so_far

count_down : (left n m k : ℕ) → left ≡ 8 - n → k ≡ left - m → k ≡ 8 - (n + m)
count_down left n m k e f = omega arith

pub loop-preserved : goal.loop-preserved
loop-preserved c = record {
  so_far =
      rw c.in_ok-query-in-Ok.ensures
      (goes_on at_set_op (λ (q : QueryTree). next_at c.args.stop (8 - sources_of q)) combine (length c.in_ok-first.rest.now) c.loop.counter (query_tree c.loop.query) (toks c.loop.rest.now) (toks c.loop.rest.now) (toks c.in-Ok.behind.now) (NextOf c.in-Ok.op (select_tree c.in-Ok.right)) _ c.loop-test.true (one_begins (toks c.loop.rest.now) c.if-not-starts_set_op.ensures)
      (ap (λ (n : ℕ). next_at c.args.stop n (toks c.loop.rest.now)) (sym c.loop.invariant.counted) ∙ c.in-Ok.ensures) c.loop.invariant.so_far);
  counted = rw c.in_ok-query-in-Ok.ensures (count_down c.loop.left (sources_of (query_tree c.loop.query)) (sources_in (select_tree c.in-Ok.right)) _ c.loop.invariant.counted c.left_behind-left-in-Ok.ensures);
}

pub returns : goal.returns
returns c = is_done at_set_op (λ (q : QueryTree). next_at c.args.stop (8 - sources_of q)) combine (length c.in_ok-first.rest.now) c.loop.counter (query_tree c.loop.query) (toks c.loop.rest.now) _ c.loop-test.false c.loop.invariant.so_far
