use Rattle.std.proofs.Common.{◌≡◌, ◌++◌, drop, map}
use Rattle.iv_records.specs.Journal.{record_of}
use Rattle.iv_following.proofs.steps.lines_of.Given as goal

abbrev pub invariant-loop-at : goal.invariant-loop-at
invariant-loop-at l = l.lines.items ++ record_of (drop l.at (map (λ v. v.items) l.texts)) ≡ record_of (map (λ v. v.items) l.texts)
