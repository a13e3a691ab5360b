use Rattle.std.proofs.Common.{◌≡◌, drop, map}
use Rattle.iv_access.specs.Privileges.{first_missing}
use Rattle.iv_access.proofs.access.Access.first_missing.Given as goal

abbrev pub invariant-loop-need : goal.invariant-loop-need
invariant-loop-need l = first_missing l.self.rights l.role.0 (map (λ n. (n.0, n.1.0)) l.needs) ≡ first_missing l.self.rights l.role.0 (map (λ n. (n.0, n.1.0)) (drop l.need-index l.needs))
