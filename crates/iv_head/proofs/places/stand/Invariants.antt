use Rattle.std.proofs.Common.{◌≡◌, take}
use Rattle.iv_once.specs.Views.{names_of}
use Rattle.iv_head.specs.Begun.{stood}
use Rattle.iv_head.proofs.places.stand.Given as goal

abbrev pub invariant-loop-standing : goal.invariant-loop-standing
invariant-loop-standing l = names_of l.names ≡ record (names_of l.fn.names) { known = stood (names_of l.fn.names).known (take l.standing-index l.standings) }
