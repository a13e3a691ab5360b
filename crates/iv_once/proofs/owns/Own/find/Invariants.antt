use Rattle.std.proofs.Common.{◌≡◌, drop}
use Rattle.iv_once.specs.Names.{find_named}
use Rattle.iv_once.proofs.owns.Own.find.Given as goal

abbrev pub invariant-loop-place : goal.invariant-loop-place
invariant-loop-place l = find_named l.name (drop l.place l.self.recent) ≡ find_named l.name l.self.recent
