use Rattle.std.proofs.Common.{◌≡◌, ◌≤◌, ◌*◌}
use Rattle.iv_tokens.specs.Moments.{days_of_months}
use Rattle.iv_tokens.proofs.moments.days_of_months.Given as goal

abbrev pub invariant-loop-at : goal.invariant-loop-at
invariant-loop-at l = record { days : l.days ≡ days_of_months l.year l.at; bound : l.days ≤ 31 * l.at }
