use Rattle.std.proofs.Common.{[], ap, ◌∙◌}
use Rattle.iv_query.specs.Trees.{pred_tree}
use Rattle.iv_bind.specs.Binding.{under}
use Rattle.iv_bind.proofs.Policies.{condition_fits-Gives}
use Rattle.iv_bind.proofs.binding.bind_pred.Goals as goal

pub returns-clause-fits : goal.returns-clause-fits
returns-clause-fits c =
    condition_fits-Gives c.args.schema.now c.deref.result.now (pred_tree c.args.tree.now.pred) c.pred.result (c.deref.ensures.value ∙ c.in_ok-scope.ensures ∙ ap (under []) c.columns.ensures.columns) c.requires c.pred.ensures
