use Rattle.std.proofs.Common.{◌∙◌, ap, subst, List}
use Rattle.iv_bind.specs.Catalogs.{CatalogEntry, numbered}
use Rattle.iv_bind.specs.Held.{entries}
use Rattle.iv_bind.specs.Sound.{IsSoundCatalog}
use Rattle.iv_bind.proofs.LargerCatalog.{IsSoundView-numbered}
use Rattle.iv_bind.proofs.catalog.Catalog.view.Goals as goal

pub returns-in-View-clause-typed : goal.returns-in-View-clause-typed
returns-in-View-clause-typed c =
    (IsSoundView-numbered c.args.self.now c.args.rel.0 c.in-Some.relation.now c.in-View.bound (subst (λ (es : List CatalogEntry). IsSoundCatalog es) c.self.view_is c.self.invariant)
    (c.in-Some.ensures ∙ ap (λ rs. numbered (entries rs) c.args.rel.0) c.deref.ensures.value ∙ ap (λ es. numbered es c.args.rel.0) c.self.view_is) c.in-View.is).typed

pub returns-in-View-clause-scanned : goal.returns-in-View-clause-scanned
returns-in-View-clause-scanned c =
    (IsSoundView-numbered c.args.self.now c.args.rel.0 c.in-Some.relation.now c.in-View.bound (subst (λ (es : List CatalogEntry). IsSoundCatalog es) c.self.view_is c.self.invariant)
    (c.in-Some.ensures ∙ ap (λ rs. numbered (entries rs) c.args.rel.0) c.deref.ensures.value ∙ ap (λ es. numbered es c.args.rel.0) c.self.view_is) c.in-View.is).scanned
