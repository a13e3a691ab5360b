use Rattle.std.proofs.Common.{◌≡◌, drop, map}
use Rattle.iv_bind.specs.Catalogs.{numbered}
use Rattle.iv_bind.specs.Held.{entry_of}
use Rattle.iv_bind.proofs.catalog.numbered.Given as goal

abbrev pub invariant-loop-relation : goal.invariant-loop-relation
invariant-loop-relation l = numbered (map entry_of l.relations) l.rel.0 ≡ numbered (map entry_of (drop l.relation-index l.relations)) l.rel.0
