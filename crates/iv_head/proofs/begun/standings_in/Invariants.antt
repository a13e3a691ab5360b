use Rattle.std.proofs.Common.{◌≡◌, ◌++◌, drop}
use Rattle.iv_head.specs.Begun.{standings_in}
use Rattle.iv_head.proofs.begun.standings_in.Given as goal

abbrev pub invariant-loop-line : goal.invariant-loop-line
invariant-loop-line l = standings_in l.lines ≡ l.out.items ++ standings_in (drop l.line-index l.lines)
