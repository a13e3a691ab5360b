use Rattle.std.proofs.Common.{◌≡◌, ◌∙◌, Bor, Some, None, false, ap, map, sym}
use Rattle.std.specs.Prelude.{filter}
use Rattle.iv_rows.specs.Options.{if_some}
use Rattle.iv_access.specs.Access.{Access}
use Rattle.iv_access.specs.Privileges.{role_of}
use Rattle.iv_access.specs.Rights.{Name}
use Rattle.iv_store.specs.Engine.{Engine}
use Rattle.iv_store.specs.Store.{database_of}
use Rattle.iv_engine.specs.declared.engine.Engine.TheInside.{Inside}
use Rattle.iv_engine.specs.Known.{relations_with}
use Rattle.iv_engine.specs.Looked.{has_named}
use Rattle.iv_engine.proofs.NameLookup.{has_in, IfOk-map, names, filter-always_false, told_by_name}
use Rattle.iv_engine.proofs.engine.Engine.relations_with.Goals as goal

pub returns-in-Some : goal.returns-in-Some
returns-in-Some c =
    let d = database_of c.self.inside.store in
    let access = c.access-access.ensures ∙ ap (λ (v : Inside). v.store.known) c.self-inside.view_is in
    let role : Some c.in-Some.role.0 ≡ role_of d.known.rights c.args.role.now = c.in-Some.ensures ∙ ap (λ (a : Access). role_of a.rights c.args.role.now) access in
    IfOk-map c.names_with.result (λ ns told off.
    let h = (c.self.invariant (ap (λ (v : Engine). v.failed) c.self.view_is ∙ off)).stored.database in
    told
    ∙ ap (λ (a : Access). filter (has_named a c.in-Some.role.0) (names a.relations)) access
    ∙ told_by_name d h c.in-Some.role.0
    ∙ ap (λ o. filter (λ rel. if_some o false (λ r. has_in d h r rel)) (map (λ e. e.name) d.catalog)) role
    ∙ ap (λ (v : Engine). relations_with v.frame c.args.role.now) c.self.view_is) c.names_with.ensures

pub returns-in-None : goal.returns-in-None
returns-in-None c = λ off.
    let d = database_of c.self.inside.store in
    let h = (c.self.invariant (ap (λ (v : Engine). v.failed) c.self.view_is ∙ off)).stored.database in
    let access = c.access-access.ensures ∙ ap (λ (v : Inside). v.store.known) c.self-inside.view_is in
    let role : None ≡ role_of d.known.rights c.args.role.now = c.in-None.ensures ∙ ap (λ (a : Access). role_of a.rights c.args.role.now) access in
    ap (map (λ (n : Bor Name). n.now)) c.new.ensures.items
    ∙ sym (filter-always_false (map (λ e. e.name) d.catalog))
    ∙ ap (λ o. filter (λ rel. if_some o false (λ r. has_in d h r rel)) (map (λ e. e.name) d.catalog)) role
    ∙ ap (λ (v : Engine). relations_with v.frame c.args.role.now) c.self.view_is
