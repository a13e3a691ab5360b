use Rattle.std.proofs.Common.{◌≡◌, ◌++◌, map, take}
use Rattle.iv_head.specs.Begun.{Standing, line, standing_text}
use Rattle.iv_head.proofs.begun.push_standings.Given as goal

abbrev pub invariant-loop-standing : goal.invariant-loop-standing
invariant-loop-standing l = l.lines.items ≡ l.fn.lines.items ++ map (λ (s : Standing). line (standing_text s)) (take l.standing-index l.standings)
