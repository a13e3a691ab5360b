use Rattle.std.proofs.Common.{◌≡◌, map, take}
use Rattle.std.specs.Prelude.{filter}
use Rattle.iv_engine.specs.Looked.{has_named}
use Rattle.iv_engine.proofs.known.names_with.Given as goal

abbrev pub invariant-loop-number : goal.invariant-loop-number
invariant-loop-number l = map (λ n. n.now) l.names.items ≡ filter (has_named l.access l.role.0) (take l.number (map (λ r. r.name) l.access.relations))
