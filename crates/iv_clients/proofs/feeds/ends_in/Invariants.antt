use Rattle.std.proofs.Common.{◌≡◌, map, drop}
use Rattle.iv_command.specs.Views.{line_of}
use Rattle.iv_clients.specs.Feeds.{ends_in}
use Rattle.iv_clients.proofs.feeds.ends_in.Given as goal

abbrev pub invariant-loop-line : goal.invariant-loop-line
invariant-loop-line l = ends_in (map line_of (drop l.line-index l.lines)) l.number ≡ ends_in (map line_of l.lines) l.number
