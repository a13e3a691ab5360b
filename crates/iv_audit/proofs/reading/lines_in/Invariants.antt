use Rattle.std.proofs.Common.{◌≡◌, map, take}
use Rattle.iv_audit.specs.Reading.{line_in}
use Rattle.iv_audit.proofs.reading.lines_in.Given as goal

abbrev pub invariant-loop-line : goal.invariant-loop-line
invariant-loop-line l = l.out.items ≡ map line_in (take l.line-index l.lines)
