use Rattle.std.proofs.lemmas.Result.{err_from_is_err_and}
use Rattle.iv_query.specs.declared.tree.PredText.{PredText}
use Rattle.iv_query.specs.declared.tree.Dialect.TheVariants.{Policy}
use Rattle.iv_query.specs.Trees.{pred_tree}
use Rattle.iv_query.specs.Grammar.{pred, Reads, Faults}
use Rattle.iv_query.specs.Texts.{IsPredText, HasPredFault}
use Rattle.iv_query.specs.TextReading.{policy_condition_at, read_pred}
use Rattle.iv_query.proofs.TextLaws.{text_read, gives_text, gives_long, IfOk-IsOutcome}
use Rattle.iv_query.proofs.PredLaws.{Agreement-pred_at}
use Rattle.iv_query.proofs.WellTokens.{preds_well}
use Rattle.iv_query.proofs.reader.read_pred.Goals as goal

pub returns-in_err-tokens-clause-read : goal.returns-in_err-tokens-clause-read
returns-in_err-tokens-clause-read c =
    let p = err_from_is_err_and c.from_residual.result c.from_residual.ensures.1 in
    rw (p.1, p.2) (gives_long policy_condition_at c.args.text.now (λ (p : PredText). pred_tree p.pred) c.in_err-tokens.field-0.0 c.in_err-tokens.ensures.long c.in_err-tokens.ensures.fault)

pub returns-clause-read : goal.returns-clause-read
returns-clause-read c =
    gives_text policy_condition_at c.args.text.now (λ (p : PredText). pred_tree p.pred) _ c.whole_pred.result c.in_ok-tokens.ensures.short c.in_ok-tokens.ensures.lexed c.whole_pred.ensures

pub returns-clause-well : goal.returns-clause-well
returns-clause-well c =
    preds_well c.args.text.now (λ (p : PredText). pred_tree p.pred) c.whole_pred.result
    (IfOk-IsOutcome IsPredText HasPredFault c.args.text.now (λ (p : PredText). pred_tree p.pred) c.whole_pred.result (read_pred c.args.text.now) (returns-clause-read c) (text_read (Reads Policy pred 32) (λ stop. Faults stop Policy pred 32) policy_condition_at (Agreement-pred_at Policy) c.args.text.now c.utf8.text))
