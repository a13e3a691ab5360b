use Rattle.std.proofs.Common.{◌≡◌, drop, map}
use Rattle.iv_bind.specs.Catalogs.{named}
use Rattle.iv_bind.specs.Held.{entry_of}
use Rattle.iv_bind.proofs.catalog.named.Given as goal

abbrev pub invariant-loop-relation : goal.invariant-loop-relation
invariant-loop-relation l = named (map entry_of l.relations) l.name ≡ named (map entry_of (drop l.relation-index l.relations)) l.name
