use Rattle.std.proofs.Common.{length, ◌-◌, sym, ◌∙◌}
use Rattle.iv_query.specs.declared.token.Symbol.TheVariants as symbol
use Rattle.iv_query.specs.Tokens.{toks, after_symbol}
use Rattle.iv_query.specs.Trees.{pred_tree, Both, Either}
use Rattle.iv_query.specs.Reading.{conj_at, term_at}
use Rattle.iv_query.proofs.Loop.{goes_on, fails_there, is_last, is_done}
use Rattle.iv_query.proofs.predicate.+predicate.Goals as goal

pub conj-returns-in_default : goal.conj-returns-in_default
conj-returns-in_default t c = sym c.loop.invariant ∙ is_last (after_symbol symbol.And) (λ _. term_at c.args.dialect c.args.stop c.args.room) Both (length c.in_ok-tree.rest.now - c.loop.counter) (pred_tree c.loop.tree) (toks c.loop.rest.now) (sym c.in_default.ensures)

pub conj-returns-in-Err : goal.conj-returns-in-Err
conj-returns-in-Err t c = fails_there (after_symbol symbol.And) (λ _. term_at c.args.dialect c.args.stop c.args.room) Both c.in-Err.fault (length c.in_ok-tree.rest.now) c.loop.counter (pred_tree c.loop.tree) (toks c.loop.rest.now) (toks c.in-Some.behind.now) _ c.loop-test.true (sym c.in-Some.ensures) c.in-Err.ensures c.loop.invariant

pub conj-loop-preserved : goal.conj-loop-preserved
conj-loop-preserved t c = rw (c.in_ok-left-in-Ok.ensures.left, c.in_ok-left-in-Ok.ensures.right) (goes_on (after_symbol symbol.And) (λ _. term_at c.args.dialect c.args.stop c.args.room) Both (length c.in_ok-tree.rest.now) c.loop.counter (pred_tree c.loop.tree) (toks c.loop.rest.now) (toks c.in-Some.behind.now) (toks c.in-Ok.behind.now) (pred_tree c.in-Ok.right) _ c.loop-test.true (sym c.in-Some.ensures) c.in-Ok.ensures c.loop.invariant)

pub conj-returns : goal.conj-returns
conj-returns t c = is_done (after_symbol symbol.And) (λ _. term_at c.args.dialect c.args.stop c.args.room) Both (length c.in_ok-tree.rest.now) c.loop.counter (pred_tree c.loop.tree) (toks c.loop.rest.now) _ c.loop-test.false c.loop.invariant

pub pred-returns-in_default : goal.pred-returns-in_default
pred-returns-in_default t c = sym c.loop.invariant ∙ is_last (after_symbol symbol.Or) (λ _. conj_at (term_at c.args.dialect c.args.stop c.args.room)) Either (length c.in_ok-tree.rest.now - c.loop.counter) (pred_tree c.loop.tree) (toks c.loop.rest.now) (sym c.in_default.ensures)

pub pred-returns-in-Err : goal.pred-returns-in-Err
pred-returns-in-Err t c = fails_there (after_symbol symbol.Or) (λ _. conj_at (term_at c.args.dialect c.args.stop c.args.room)) Either c.in-Err.fault (length c.in_ok-tree.rest.now) c.loop.counter (pred_tree c.loop.tree) (toks c.loop.rest.now) (toks c.in-Some.behind.now) _ c.loop-test.true (sym c.in-Some.ensures) c.in-Err.ensures c.loop.invariant

pub pred-loop-preserved : goal.pred-loop-preserved
pred-loop-preserved t c = rw (c.in_ok-left-in-Ok.ensures.left, c.in_ok-left-in-Ok.ensures.right) (goes_on (after_symbol symbol.Or) (λ _. conj_at (term_at c.args.dialect c.args.stop c.args.room)) Either (length c.in_ok-tree.rest.now) c.loop.counter (pred_tree c.loop.tree) (toks c.loop.rest.now) (toks c.in-Some.behind.now) (toks c.in-Ok.behind.now) (pred_tree c.in-Ok.right) _ c.loop-test.true (sym c.in-Some.ensures) c.in-Ok.ensures c.loop.invariant)

pub pred-returns : goal.pred-returns
pred-returns t c = is_done (after_symbol symbol.Or) (λ _. conj_at (term_at c.args.dialect c.args.stop c.args.room)) Either (length c.in_ok-tree.rest.now) c.loop.counter (pred_tree c.loop.tree) (toks c.loop.rest.now) _ c.loop-test.false c.loop.invariant
