use Rattle.std.proofs.Common.{◌≡◌, ◌-◌, map, length}
use Rattle.iv_query.specs.Tokens.{toks}
use Rattle.iv_query.specs.Trees.{join_tree}
use Rattle.iv_query.specs.Parts.{push, at_join}
use Rattle.iv_query.specs.Reading.{many_at}
use Rattle.iv_query.specs.QueryReading.{join_at, joins_at}
use Rattle.iv_query.proofs.query.joins.Given as goal

-- what is still read behind what was read gives what all of it does
abbrev pub invariant-loop : goal.invariant-loop
invariant-loop l = many_at at_join (λ js. join_at l.stop (l.left - length js)) push (l.end - l.counter) (map join_tree l.list.items) (toks l.rest) ≡ joins_at l.stop l.left (toks l.tokens)
