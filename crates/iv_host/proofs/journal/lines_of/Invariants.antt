use Rattle.std.proofs.Common.{◌≡◌, take}
use Rattle.iv_host.proofs.journal.lines_of.Given as goal

abbrev pub invariant-loop-line : goal.invariant-loop-line
invariant-loop-line l = l.out.items ≡ take l.line-index l.lines
