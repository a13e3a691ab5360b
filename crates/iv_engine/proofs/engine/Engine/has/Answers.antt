use Rattle.std.proofs.Common.{◌≡◌, ◌∙◌, false, Some, ap}
use Rattle.iv_rows.specs.Options.{if_some}
use Rattle.iv_bind.specs.Catalogs.{named}
use Rattle.iv_access.specs.Access.{Access}
use Rattle.iv_access.specs.Privileges.{has, role_of}
use Rattle.iv_store.specs.Engine.{Engine}
use Rattle.iv_store.specs.Store.{database_of}
use Rattle.iv_engine.specs.declared.engine.Engine.TheInside.{Inside}
use Rattle.iv_engine.specs.Known.{has_on}
use Rattle.iv_engine.specs.Looked.{has_one}
use Rattle.iv_engine.proofs.NameLookup.{asked_by_name}
use Rattle.iv_engine.proofs.engine.Engine.has.Goals as goal

pub returns-in-Some : goal.returns-in-Some
returns-in-Some c = λ off.
    let d = database_of c.self.inside.store in
    let h = (c.self.invariant (ap (λ (v : Engine). v.failed) c.self.view_is ∙ off)).stored.database in
    let access = c.access-access.ensures ∙ ap (λ (v : Inside). v.store.known) c.self-inside.view_is in
    let role : Some c.in-Some.role.0 ≡ role_of d.known.rights c.args.role.now = c.in-Some.ensures ∙ ap (λ (a : Access). role_of a.rights c.args.role.now) access in
    c.has_one.ensures
    ∙ ap (λ (a : Access). has_one a c.in-Some.role.0 c.args.privilege c.args.rel.now) access
    ∙ asked_by_name d h (has d.known.rights c.in-Some.role.0 c.args.privilege) c.args.rel.now
    ∙ ap (λ o. if_some o false (λ r. if_some (named d.catalog c.args.rel.now) false (λ e. has d.known.rights r c.args.privilege e.rel))) role
    ∙ ap (λ (v : Engine). has_on v.frame c.args.role.now c.args.privilege c.args.rel.now) c.self.view_is
