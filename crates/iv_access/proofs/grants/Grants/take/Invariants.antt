use Rattle.std.proofs.Common.{◌≡◌, drop}
use Rattle.iv_access.specs.Changing.{revoked, for_each}
use Rattle.iv_access.specs.Grants.{seen}
use Rattle.iv_access.proofs.grants.Grants.take.Given as goal

abbrev pub invariant-loop-privilege : goal.invariant-loop-privilege
invariant-loop-privilege l = for_each revoked l.rel.0 l.privileges (seen l.grantee) l.fn.self.list ≡ for_each revoked l.rel.0 (drop l.privilege-index l.privileges) (seen l.grantee) l.self.list
