use Rattle.std.proofs.Common.{◌≡◌, ◌+◌, drop}
use Rattle.std.specs.Prelude.{option_map}
use Rattle.iv_host.specs.Roles.{by_role, first_at}
use Rattle.iv_host.proofs.figures.first_at.Given as goal

abbrev pub invariant-loop-at : goal.invariant-loop-at
invariant-loop-at l = first_at l.role (by_role l.roles) ≡ option_map (λ k. l.at + k) (first_at l.role (by_role (drop l.at l.roles)))
