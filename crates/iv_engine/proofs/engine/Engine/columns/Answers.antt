use Rattle.std.proofs.Common.{◌≡◌, ◌∙◌, [], List, Some, None, ap}
use Rattle.iv_rows.specs.Options.{if_some}
use Rattle.iv_bind.specs.Catalogs.{CatalogEntry, columns_of, numbered}
use Rattle.iv_access.specs.Access.{Access, relation_of}
use Rattle.iv_store.specs.Engine.{Engine}
use Rattle.iv_store.specs.Store.{database_of}
use Rattle.iv_engine.specs.declared.engine.Engine.TheInside.{Inside}
use Rattle.iv_engine.specs.Known.{columns_named}
use Rattle.iv_engine.proofs.NameLookup.{by_none, by_number}
use Rattle.iv_engine.proofs.engine.Engine.columns.Goals as goal

pub returns-in-Some : goal.returns-in-Some
returns-in-Some c = λ off.
    let d = database_of c.self.inside.store in
    let h = (c.self.invariant (ap (λ (v : Engine). v.failed) c.self.view_is ∙ off)).stored.database in
    let at : Some c.in-Some.rel.0 ≡ relation_of d.known.relations c.args.rel.now = c.in-Some.ensures
    ∙ ap (λ (a : Access). relation_of a.relations c.args.rel.now) (c.access.ensures ∙ ap (λ (v : Inside). v.store.known) c.self-inside.view_is) in
    c.columns_at.ensures
    ∙ ap (λ (es : List CatalogEntry). if_some (numbered es c.in-Some.rel.0) [] (λ e. columns_of e.held)) (c.catalog.ensures ∙ ap (λ (v : Inside). v.store.catalog) c.self-inside.view_is)
    ∙ by_number d h [] (λ e. columns_of e.held) c.args.rel.now c.in-Some.rel.0 at
    ∙ ap (λ (v : Engine). columns_named v.frame c.args.rel.now) c.self.view_is

pub returns-in-None : goal.returns-in-None
returns-in-None c = λ off.
    let d = database_of c.self.inside.store in
    let h = (c.self.invariant (ap (λ (v : Engine). v.failed) c.self.view_is ∙ off)).stored.database in
    let at : None ≡ relation_of d.known.relations c.args.rel.now = c.in-None.ensures
    ∙ ap (λ (a : Access). relation_of a.relations c.args.rel.now) (c.access.ensures ∙ ap (λ (v : Inside). v.store.known) c.self-inside.view_is) in
    by_none d h [] (λ e. columns_of e.held) c.args.rel.now at ∙ ap (λ (v : Engine). columns_named v.frame c.args.rel.now) c.self.view_is
