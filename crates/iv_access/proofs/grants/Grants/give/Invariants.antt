use Rattle.std.proofs.Common.{◌≡◌, ◌+◌, ◌<◌, ◌≤◌, drop, length}
use Rattle.iv_access.specs.Changing.{granted, for_each}
use Rattle.iv_access.specs.Grants.{seen}
use Rattle.iv_access.proofs.grants.Grants.give.Given as goal

abbrev pub invariant-loop-privilege : goal.invariant-loop-privilege
invariant-loop-privilege l =
    (for_each granted l.rel.0 l.privileges (seen l.grantee) l.fn.self.list ≡ for_each granted l.rel.0 (drop l.privilege-index l.privileges) (seen l.grantee) l.self.list)
    × (length l.privileges ≤ l.privilege-index + l.self.spare)
    × (l.rel.0 < l.self.relations)
