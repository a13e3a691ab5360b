use Rattle.std.proofs.Common.{List, sym, subst}
use Rattle.iv_bind.specs.Catalogs.{CatalogEntry}
use Rattle.iv_bind.specs.Held.{held_of}
use Rattle.iv_bind.specs.Sound.{HeldIsSound}
use Rattle.iv_bind.proofs.LargerCatalog.{IsSoundCatalog-push_relation}
use Rattle.iv_bind.proofs.catalog.Catalog.add.Goals as goal

pub invariant_of-self-in-Ok : goal.invariant_of-self-in-Ok
invariant_of-self-in-Ok c =
    let P : List CatalogEntry → Type 0 = λ es. HeldIsSound es (held_of c.args.held) in
    IsSoundCatalog-push_relation c.self.inside.relations.items c.push.new.self.items (record { name = c.in-Ok.name; rel = c.args.rel; held = c.args.held }) c.in_ok-push-in-Ok.ensures.items c.self.invariant (subst P (sym c.self.view_is) c.requires)
