use Rattle.std.proofs.Common.{◌≡◌, map, take}
use Rattle.iv_command.specs.Views.{line_of}
use Rattle.iv_clients.specs.Clients.{at_all}
use Rattle.iv_clients.specs.Kept.{keeping_on}
use Rattle.iv_hall.proofs.hall.Hall.stay.Given as goal

abbrev pub invariant-loop-line : goal.invariant-loop-line
invariant-loop-line l = l.self ≡ at_all (keeping_on (map line_of (take l.line-index l.lines))) l.fn.self
