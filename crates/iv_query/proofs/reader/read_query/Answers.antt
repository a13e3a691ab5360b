use Rattle.std.proofs.lemmas.Result.{err_from_is_err_and}
use Rattle.iv_query.specs.Trees.{query_tree}
use Rattle.iv_query.specs.Query.{IsQuery, IsQueryFault}
use Rattle.iv_query.specs.QueryReading.{query_at}
use Rattle.iv_query.specs.Texts.{IsQueryText, HasQueryFault}
use Rattle.iv_query.specs.TextReading.{read_query}
use Rattle.iv_query.proofs.TextLaws.{text_read, gives_text, gives_long, IfOk-IsOutcome}
use Rattle.iv_query.proofs.SelectLaws.{Agreement-query_at}
use Rattle.iv_query.proofs.WellTokens.{queries_well, queries_small}
use Rattle.iv_query.proofs.reader.read_query.Goals as goal

pub returns-in_err-tokens-clause-read : goal.returns-in_err-tokens-clause-read
returns-in_err-tokens-clause-read c =
    let p = err_from_is_err_and c.from_residual.result c.from_residual.ensures.1 in
    rw (p.1, p.2) (gives_long query_at c.args.text.now query_tree c.in_err-tokens.field-0.0 c.in_err-tokens.ensures.long c.in_err-tokens.ensures.fault)

pub returns-clause-read : goal.returns-clause-read
returns-clause-read c =
    gives_text query_at c.args.text.now query_tree _ c.whole_query.result c.in_ok-tokens.ensures.short c.in_ok-tokens.ensures.lexed c.whole_query.ensures

pub returns-clause-well : goal.returns-clause-well
returns-clause-well c =
    queries_well c.args.text.now query_tree c.whole_query.result
    (IfOk-IsOutcome IsQueryText HasQueryFault c.args.text.now query_tree c.whole_query.result (read_query c.args.text.now) (returns-clause-read c) (text_read IsQuery IsQueryFault query_at Agreement-query_at c.args.text.now c.utf8.text))

pub returns-clause-sources : goal.returns-clause-sources
returns-clause-sources c =
    queries_small c.args.text.now query_tree c.whole_query.result
    (IfOk-IsOutcome IsQueryText HasQueryFault c.args.text.now query_tree c.whole_query.result (read_query c.args.text.now) (returns-clause-read c) (text_read IsQuery IsQueryFault query_at Agreement-query_at c.args.text.now c.utf8.text))
