-- What a relation of the program stands for.
use Rattle.std.specs.Prelude.{List, map, string_bytes}
use Rattle.iv_bind.specs.declared.catalog.Held.{Held}
use Rattle.iv_bind.specs.declared.catalog.Held.TheVariants as variant
use Rattle.iv_bind.specs.declared.catalog.Relation.{Relation}
use Rattle.iv_bind.specs.Catalogs as seen
use Rattle.iv_bind.specs.Catalogs.{CatalogEntry, bound_of}

abbrev pub held_of : Held → seen.Held
held_of (variant.Table schema) = seen.Table schema
held_of (variant.View bound) = seen.View (bound_of bound)

abbrev pub entry_of : Relation → CatalogEntry
entry_of r = record { name = string_bytes r.name; rel = r.rel.0; held = held_of r.held }

-- what a catalog holds
abbrev pub entries : List Relation → List CatalogEntry
entries = map entry_of
