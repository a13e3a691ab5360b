use Rattle.iv_query.specs.declared.tree.Dialect.TheVariants.{Policy}
use Rattle.iv_query.specs.Grammar.{pred, Reads, Faults}
use Rattle.iv_query.specs.Query.{IsQuery, IsQueryFault}
use Rattle.iv_query.specs.QueryReading.{query_at}
use Rattle.iv_query.specs.TextReading.{policy_condition_at}
use Rattle.iv_query.proofs.PredLaws.{Agreement-pred_at}
use Rattle.iv_query.proofs.SelectLaws.{Agreement-query_at}
use Rattle.iv_query.proofs.TextLaws.{text_read}
use Rattle.iv_query.proofs.laws.texts_are_read.Goals as goal

pub returns-clause-query : goal.returns-clause-query
returns-clause-query c = text_read IsQuery IsQueryFault query_at Agreement-query_at

pub returns-clause-pred : goal.returns-clause-pred
returns-clause-pred c = text_read (Reads Policy pred 32) (λ stop. Faults stop Policy pred 32) policy_condition_at (Agreement-pred_at Policy)
