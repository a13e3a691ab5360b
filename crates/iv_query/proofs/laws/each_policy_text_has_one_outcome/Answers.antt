use Rattle.iv_query.specs.declared.tree.Dialect.TheVariants.{Policy}
use Rattle.iv_query.specs.Grammar.{pred, Reads, Faults}
use Rattle.iv_query.specs.TextReading.{policy_condition_at}
use Rattle.iv_query.proofs.PredLaws.{Agreement-pred_at}
use Rattle.iv_query.proofs.TextLaws.{one_outcome}
use Rattle.iv_query.proofs.laws.each_policy_text_has_one_outcome.Goals as goal

pub returns : goal.returns
returns c = one_outcome (Reads Policy pred 32) (λ stop. Faults stop Policy pred 32) policy_condition_at (Agreement-pred_at Policy)
