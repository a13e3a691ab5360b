use Rattle.std.proofs.Common.{◌≡◌, drop}
use Rattle.iv_pages.specs.Asking.{says_other}
use Rattle.iv_pages.proofs.asking.says_other.Given as goal

abbrev pub invariant-loop-at : goal.invariant-loop-at
invariant-loop-at l = says_other (drop l.at l.bytes) ≡ says_other l.bytes
