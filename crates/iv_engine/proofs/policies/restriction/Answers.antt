use Rattle.std.proofs.Common.{◌∙◌, ap, subst, sym}
use Rattle.iv_algebra.specs.Shapes.{condition_of}
use Rattle.iv_database.specs.Database.{IsDatabase}
use Rattle.iv_machine.specs.State.{rel_of}
use Rattle.iv_store.specs.Store.{Store, database_of}
use Rattle.iv_engine.proofs.WiderPolicies.{IsRestricted-policies_of}
use Rattle.iv_engine.proofs.policies.restriction.Goals as goal

pub acting_on-requires : goal.acting_on-requires
acting_on-requires c = subst (λ (v : Store). IsDatabase (database_of v)) (sym c.store.view_is) c.requires.database

pub returns : goal.returns
returns c =
    IsRestricted-policies_of c.args.store.now c.access.result.now c.args.rel.now c.args.name.now c.in-Ok.table.0 (condition_of c.in-Some.pred.now) _
    (c.access.ensures ∙ ap (λ (v : Store). v.known) c.store.view_is)
    (ap (λ (v : Store). rel_of v.catalog c.args.rel.now) (sym c.store.view_is) ∙ c.in-Ok.ensures.number)
    c.in_ok-copy.ensures
    c.in-Some.ensures
    (sym c.names_user.ensures ∙ c.if-names_user.false)
