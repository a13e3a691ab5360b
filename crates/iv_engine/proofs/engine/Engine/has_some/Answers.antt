use Rattle.std.proofs.Common.{◌≡◌, ◌∙◌, false, Some, ap}
use Rattle.iv_rows.specs.Options.{if_some}
use Rattle.iv_access.specs.Access.{Access}
use Rattle.iv_access.specs.Privileges.{role_of}
use Rattle.iv_store.specs.Engine.{Engine}
use Rattle.iv_store.specs.Store.{database_of}
use Rattle.iv_engine.specs.declared.engine.Engine.TheInside.{Inside}
use Rattle.iv_engine.specs.Known.{has_some}
use Rattle.iv_engine.specs.Looked.{has_named}
use Rattle.iv_engine.proofs.NameLookup.{has_by_name, has_in}
use Rattle.iv_engine.proofs.engine.Engine.has_some.Goals as goal

pub returns-in-Some : goal.returns-in-Some
returns-in-Some c = λ off.
    let d = database_of c.self.inside.store in
    let h = (c.self.invariant (ap (λ (v : Engine). v.failed) c.self.view_is ∙ off)).stored.database in
    let access = c.access-access.ensures ∙ ap (λ (v : Inside). v.store.known) c.self-inside.view_is in
    let role : Some c.in-Some.role.0 ≡ role_of d.known.rights c.args.role.now = c.in-Some.ensures ∙ ap (λ (a : Access). role_of a.rights c.args.role.now) access in
    c.has_named.ensures
    ∙ ap (λ (a : Access). has_named a c.in-Some.role.0 c.args.rel.now) access
    ∙ has_by_name d h c.in-Some.role.0 c.args.rel.now
    ∙ ap (λ o. if_some o false (λ r. has_in d h r c.args.rel.now)) role
    ∙ ap (λ (v : Engine). has_some v.frame c.args.role.now c.args.rel.now) c.self.view_is
