use Rattle.std.proofs.Common.{◌≡◌, ◌≤◌, ℕ, drop}
use Rattle.iv_audit.specs.Writing.{holder_at}
use Rattle.iv_audit.proofs.writing.behind_line.Given as goal

abbrev pub invariant-loop-place : goal.invariant-loop-place
invariant-loop-place l = (n : ℕ) → l.at ≤ n → holder_at (drop l.place l.shares) n ≡ holder_at l.shares n
