use Rattle.std.proofs.Common.{◌≡◌, map, take}
use Rattle.iv_command.specs.Views.{line_of}
use Rattle.iv_clients.specs.Clients.{at_all}
use Rattle.iv_hall.specs.Hearing.{hearing_lines}
use Rattle.iv_hall.proofs.hall.Hall.hear.Given as goal

abbrev pub invariant-loop-line : goal.invariant-loop-line
invariant-loop-line l = l.self ≡ at_all (hearing_lines l.feeds (map line_of (take l.line-index l.lines))) l.fn.self
