use Rattle.std.proofs.Common.{◌≡◌, not, take}
use Rattle.std.specs.List.{list_any}
use Rattle.iv_algebra.specs.Evaluation.{holds}
use Rattle.iv_algebra.specs.Rows.{Cells}
use Rattle.iv_algebra.specs.Shapes.{condition_of}
use Rattle.iv_access.specs.declared.policy.Check.TheVariants.{Select}
use Rattle.iv_access.specs.Policies.{forbids}
use Rattle.iv_access.specs.Privileges.{role_name}
use Rattle.iv_access.proofs.access.Access.restrictive.Given as goal

abbrev pub invariant-loop-policy : goal.invariant-loop-policy
invariant-loop-policy l = (row : Cells) → list_any (λ p. not (holds (condition_of p) (role_name l.self.rights l.role.0) row)) l.preds.items ≡ list_any (forbids l.self.rights l.role.0 Select row) (take l.policy-index l.policies)
