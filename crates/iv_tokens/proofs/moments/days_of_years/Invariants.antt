use Rattle.std.proofs.Common.{◌≡◌, ◌≤◌, ◌*◌}
use Rattle.iv_tokens.specs.Moments.{days_of_years}
use Rattle.iv_tokens.proofs.moments.days_of_years.Given as goal

abbrev pub invariant-loop-at : goal.invariant-loop-at
invariant-loop-at l = record { days : l.days ≡ days_of_years l.at; bound : l.days ≤ 366 * l.at }
