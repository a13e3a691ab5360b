use Rattle.std.proofs.Common.{ap, ◌∙◌}
use Rattle.std.specs.Prelude.{slice_get, if◌then◌else◌}
use Rattle.iv_access.specs.declared.policy.Verdict.TheVariants.{Pass}
use Rattle.iv_access.specs.Policies.{by_policies, is_exempt, is_pass, policies_of}
use Rattle.iv_access.specs.Changing.{changed_at}
use Rattle.iv_access.proofs.Further.{further, slice_get-changed_at, same_verdict, widen}
use Rattle.iv_access.proofs.laws.permissive_policies_widen.Goals as goal

pub returns : goal.returns
returns c = λ r p role table test row e h.
    ap is_pass (same_verdict r (changed_at table (further p) r.guards) role test row (slice_get (changed_at table (further p) r.guards) table)
    ∙ ap (λ o. if is_exempt r role o then Pass else by_policies r role test row (policies_of o)) (slice_get-changed_at table (further p) r.guards))
    ∙ widen r p role test row (slice_get r.guards table) e h
