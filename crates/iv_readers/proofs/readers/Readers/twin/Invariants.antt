use Rattle.std.proofs.Common.{◌≡◌, drop}
use Rattle.iv_readers.specs.Readers.{some_exempt}
use Rattle.iv_readers.proofs.readers.Readers.twin.Given as goal

-- if there is such a reader, it is not among those so far
abbrev pub invariant-loop-place : goal.invariant-loop-place
invariant-loop-place l =
    some_exempt l.fn.self l.fn.access.rights l.fn.role.0 l.fn.rel.0 ≡ some_exempt (drop l.place l.fn.self) l.fn.access.rights l.fn.role.0 l.fn.rel.0
