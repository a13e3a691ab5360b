use Rattle.std.proofs.Common.{◌≡◌, drop}
use Rattle.std.specs.Prelude.{◌==◌}
use Rattle.std.specs.List.{position_from}
use Rattle.iv_bind.proofs.items.position.Given as goal

abbrev pub invariant-loop-place : goal.invariant-loop-place
invariant-loop-place l = position_from (λ j. l.k == j) 0 l.keys ≡ position_from (λ j. l.k == j) l.place (drop l.place l.keys)
