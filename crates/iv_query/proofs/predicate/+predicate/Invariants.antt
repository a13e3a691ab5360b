use Rattle.std.proofs.Common.{◌≡◌, ◌+◌, ◌-◌, ◌*◌}
use Rattle.iv_query.specs.declared.token.Symbol.TheVariants as symbol
use Rattle.iv_query.specs.Tokens.{toks, after_symbol}
use Rattle.iv_query.specs.Trees.{pred_tree, Both, Either}
use Rattle.iv_query.specs.Reading.{many_at, conj_at, pred_at, term_at}
use Rattle.iv_query.proofs.predicate.+predicate.Given as goal

abbrev pub decreases-pred : goal.decreases-pred
decreases-pred l = 3 * l.room + 2

abbrev pub decreases-conj : goal.decreases-conj
decreases-conj l = 3 * l.room + 1

abbrev pub decreases-term : goal.decreases-term
decreases-term l = 3 * l.room

-- what is still read behind what was read gives what all of it does
abbrev pub invariant-conj-loop : goal.invariant-conj-loop
invariant-conj-loop l = many_at (after_symbol symbol.And) (λ _. term_at l.dialect l.stop l.room) Both (l.end - l.counter) (pred_tree l.tree) (toks l.rest) ≡ conj_at (term_at l.dialect l.stop l.room) (toks l.tokens)

abbrev pub invariant-pred-loop : goal.invariant-pred-loop
invariant-pred-loop l = many_at (after_symbol symbol.Or) (λ _. conj_at (term_at l.dialect l.stop l.room)) Either (l.end - l.counter) (pred_tree l.tree) (toks l.rest) ≡ pred_at (term_at l.dialect l.stop l.room) (toks l.tokens)
