use Rattle.std.proofs.Common.{◌≡◌, ℕ, ◌<◌, true, false, get_or}
use Rattle.iv_access.specs.Given.{grant_to, is_among}
use Rattle.iv_access.specs.Rights.{Role}
use Rattle.iv_access.proofs.access.Access.is_inherited.Given as goal

abbrev pub invariant-loop-place : goal.invariant-loop-place
invariant-loop-place l = (k : ℕ) → k < l.place → get_or l.row k false ≡ true → is_among l.self.rights.grants (grant_to (Role k) l.fn.privilege l.fn.rel.0) ≡ false
