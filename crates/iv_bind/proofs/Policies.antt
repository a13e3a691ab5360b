-- The predicate of a policy fits the columns of its table.
use Rattle.std.proofs.Common.{◌≡◌, List, [], true, Result, Ok, Err, Some, sym, ap, ◌∙◌}
use Rattle.std.specs.Prelude.{IfOk}
use Rattle.iv_rows.specs.Columns.{Column, kinds_of}
use Rattle.iv_rows.specs.declared.value.Kind.TheVariants.{Text}
use Rattle.iv_query.specs.declared.tree.Dialect.TheVariants.{Policy}
use Rattle.iv_query.specs.Trees.{PredTree}
use Rattle.iv_query.specs.Well.{IsWellPred}
use Rattle.iv_algebra.specs.declared.pred.Pred.{Pred}
use Rattle.iv_algebra.specs.Fits.{condition_fits}
use Rattle.iv_bind.specs.declared.fault.BindFault.{BindFault}
use Rattle.iv_bind.specs.Faults.{Gives}
use Rattle.iv_algebra.specs.Shapes.{condition_of}
use Rattle.iv_bind.specs.Binding.{Named, under, pred_bound}
use Rattle.iv_bind.proofs.Columns.{kinds_in}
use Rattle.iv_bind.proofs.Predicates.{condition_fits-pred_bound}
use Rattle.iv_bind.proofs.Joins.{kinds_in-under}

pub condition_fits-Gives : (columns : List Column) (scope : List Named) (t : PredTree) (r : Result Pred BindFault) → scope ≡ under [] columns → IsWellPred Policy t → Gives condition_of r (pred_bound scope t)
    → IfOk r (λ p. condition_fits (Some Text) (kinds_of columns) (condition_of p) ≡ true)
condition_fits-Gives columns scope t (Ok p) e w g = (λ i. condition_fits (Some Text) (sym (ap kinds_in e ∙ kinds_in-under [] columns) i) (condition_of p)) ∙ condition_fits-pred_bound Policy scope t (condition_of p) w g
condition_fits-Gives columns scope t (Err f) e w g = tt
