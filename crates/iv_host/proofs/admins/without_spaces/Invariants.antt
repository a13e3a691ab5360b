use Rattle.std.proofs.Common.{◌≡◌, drop}
use Rattle.iv_host.specs.Admins.{without_spaces}
use Rattle.iv_host.proofs.admins.without_spaces.Given as goal

abbrev pub invariant-loop-at : goal.invariant-loop-at
invariant-loop-at l = without_spaces (drop l.at l.text) ≡ without_spaces l.text
