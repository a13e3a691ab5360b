use Rattle.std.proofs.Common.{◌-◌, length, map, sym, ◌∙◌}
use Rattle.std.proofs.lemmas.List.{map_push}
use Rattle.std.proofs.lemmas.Result.{err_from_is_err_and}
use Rattle.iv_query.specs.Tokens.{toks, after_symbol}
use Rattle.iv_query.specs.Parts.{push}
use Rattle.iv_query.proofs.Loop.{goes_on, fails_there, is_last, is_done}
use Rattle.iv_query.proofs.list.list_of.Goals as goal

pub returns-in_default : goal.returns-in_default
returns-in_default g c = sym c.loop.invariant ∙ is_last (after_symbol c.args.sign) (λ _. g.T.Listed.item_at c.args.stop) push (length c.in_ok-first.rest.now - c.loop.counter) (map g.T.Listed.tree c.loop.list.items) (toks c.loop.rest.now) (sym c.in_default.ensures)

pub returns-in_err-next : goal.returns-in_err-next
returns-in_err-next g c =
    let p = err_from_is_err_and c.from_residual-in_err-next.result c.from_residual-in_err-next.ensures.1 in
    rw (p.1, p.2) (fails_there (after_symbol c.args.sign) (λ _. g.T.Listed.item_at c.args.stop) push c.in_err-next.field-0.0 (length c.in_ok-first.rest.now) c.loop.counter (map g.T.Listed.tree c.loop.list.items) (toks c.loop.rest.now) (toks c.in-Some.behind.now) _ c.loop-test.true (sym c.in-Some.ensures) c.in_err-next.ensures c.loop.invariant)

pub loop-preserved : goal.loop-preserved
loop-preserved g c =
    rw (c.in_ok-push-2.ensures.items, map_push g.T.Listed.tree c.loop.list.items c.in_ok-next.next)
    (goes_on (after_symbol c.args.sign) (λ _. g.T.Listed.item_at c.args.stop) push (length c.in_ok-first.rest.now) c.loop.counter (map g.T.Listed.tree c.loop.list.items) (toks c.loop.rest.now) (toks c.in-Some.behind.now) (toks c.in_ok-next.behind.now) (g.T.Listed.tree c.in_ok-next.next) _ c.loop-test.true (sym c.in-Some.ensures) c.in_ok-next.ensures c.loop.invariant)

pub returns : goal.returns
returns g c = is_done (after_symbol c.args.sign) (λ _. g.T.Listed.item_at c.args.stop) push (length c.in_ok-first.rest.now) c.loop.counter (map g.T.Listed.tree c.loop.list.items) (toks c.loop.rest.now) _ c.loop-test.false c.loop.invariant
