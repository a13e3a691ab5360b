use Rattle.std.proofs.Common.{◌≡◌, length}
use Rattle.iv_roles.proofs.Flags.{LedTo}
use Rattle.iv_roles.proofs.memberships.lead.Given as goal

abbrev pub invariant-loop-place : goal.invariant-loop-place
invariant-loop-place l = LedTo l.place l.fn.role l.fn.member l.other l.fn.rows l.rows × (length l.rows ≡ length l.fn.rows)
