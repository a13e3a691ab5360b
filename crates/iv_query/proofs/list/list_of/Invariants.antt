use Rattle.std.proofs.Common.{◌≡◌, ◌-◌, map}
use Rattle.iv_query.specs.Tokens.{toks, after_symbol}
use Rattle.iv_query.specs.Parts.{push}
use Rattle.iv_query.specs.Reading.{many_at, list_of}
use Rattle.iv_query.proofs.list.list_of.Given as goal

-- what is still read behind what was read gives what all of it does
abbrev pub invariant-loop : goal.invariant-loop
invariant-loop g l = many_at (after_symbol l.sign) (λ _. g.T.Listed.item_at l.stop) push (l.end - l.counter) (map g.T.Listed.tree l.list.items) (toks l.rest) ≡ list_of l.sign (g.T.Listed.item_at l.stop) (toks l.tokens)
