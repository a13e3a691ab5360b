use Rattle.std.proofs.Common.{ap, ◌∙◌}
use Rattle.std.specs.Prelude.{slice_get, if◌then◌else◌}
use Rattle.std.specs.List.{position}
use Rattle.iv_access.specs.declared.policy.Verdict.TheVariants.{Pass, NoPermissive}
use Rattle.iv_access.specs.Policies.{by_policies, failed_at, forbids, policies_of}
use Rattle.iv_access.proofs.Policies.{list_any-permits}
use Rattle.iv_access.proofs.laws.nothing_passes_without_a_permissive_policy.Goals as goal

pub returns : goal.returns
returns c = λ r role table test row other none.
    let ps = policies_of (slice_get r.guards table) in
    ap (λ b. if b then Pass else by_policies r role test row ps) other
    ∙ ap (λ b. if b then failed_at (position (forbids r role test row) ps) else NoPermissive) (list_any-permits r role test row ps none)
