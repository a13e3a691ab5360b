use Rattle.std.proofs.Common.{◌≡◌, length}
use Rattle.iv_roles.proofs.Flags.{JoinedTo}
use Rattle.iv_roles.proofs.memberships.join.Given as goal

abbrev pub invariant-loop-place : goal.invariant-loop-place
invariant-loop-place l = JoinedTo l.place l.fn.row l.other l.row × (length l.row ≡ 256)
