use Rattle.std.proofs.Common.{◌∙◌, ap, option_map}
use Rattle.iv_algebra.specs.Shapes.{condition_of}
use Rattle.iv_store.specs.Store.{Store}
use Rattle.iv_engine.proofs.WiderPolicies.{IsHidden-filter}
use Rattle.iv_engine.proofs.policies.hidden.Goals as goal

pub returns : goal.returns
returns c =
    IsHidden-filter c.args.store.now c.tables-tables.result.now c.args.table.0 c.in_ok-hidden.hidden _ (condition_of c.in-Some.pred)
    (c.tables-tables.ensures ∙ ap (λ (v : Store). v.tables) c.store.view_is)
    c.in_ok-hidden.ensures.table
    (ap (option_map condition_of) c.in-Some.is)
    c.in_ok-hidden.ensures.rows
