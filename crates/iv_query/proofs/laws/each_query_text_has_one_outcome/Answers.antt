use Rattle.iv_query.specs.Query.{IsQuery, IsQueryFault}
use Rattle.iv_query.specs.QueryReading.{query_at}
use Rattle.iv_query.proofs.SelectLaws.{Agreement-query_at}
use Rattle.iv_query.proofs.TextLaws.{one_outcome}
use Rattle.iv_query.proofs.laws.each_query_text_has_one_outcome.Goals as goal

pub returns : goal.returns
returns c = one_outcome IsQuery IsQueryFault query_at Agreement-query_at
