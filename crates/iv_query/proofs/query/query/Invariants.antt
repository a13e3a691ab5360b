use Rattle.std.proofs.Common.{◌≡◌, ◌-◌}
use Rattle.iv_query.specs.Tokens.{toks}
use Rattle.iv_query.specs.Trees.{QueryTree, query_tree}
use Rattle.iv_query.specs.Parts.{at_set_op, combine, sources_of}
use Rattle.iv_query.specs.Reading.{many_at}
use Rattle.iv_query.specs.QueryReading.{next_at, query_at}
use Rattle.iv_query.proofs.query.query.Given as goal

-- what is still read behind what was read gives what all of it does
abbrev pub invariant-loop : goal.invariant-loop
invariant-loop l = record {
  so_far : many_at at_set_op (λ (q : QueryTree). next_at l.stop (8 - sources_of q)) combine (l.end - l.counter) (query_tree l.query) (toks l.rest) ≡ query_at l.stop (toks l.tokens);
  counted : l.left ≡ 8 - sources_of (query_tree l.query);
}
