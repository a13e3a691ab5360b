use Rattle.std.proofs.Common.{◌≡◌, ap, ◌∙◌}
use Rattle.std.specs.Prelude.{slice_set}
use Rattle.iv_access.specs.NewPolicies.{policy_from}
use Rattle.iv_access.specs.Rights.{Guard}
use Rattle.iv_access.specs.Changing.{changed_at, insert_policy}
use Rattle.iv_access.proofs.Policies.{slice_set-changed_at}
use Rattle.iv_access.proofs.access.Access.create_policy.Goals as goal

pub returns-clause-ok : goal.returns-clause-ok
returns-clause-ok c =
    let n = c.args.table.0 in
    let gs = c.self.inside.guards.items in
    let change : Guard → Guard = λ g. record g { policies = insert_policy c.in_ok-stored.stored g.policies } in
    let after : slice_set gs n c.insert.new.self ≡ changed_at n (λ g. record g { policies = insert_policy (policy_from c.args.self.now.rights c.args.policy) g.policies }) c.args.self.now.rights.guards =
    ap (slice_set gs n) c.in_ok-insert.ensures.ok
    ∙ slice_set-changed_at n change gs c.index_mut-guard.result.now c.index_mut-guard.ensures.value
    ∙ ap (λ k. changed_at n change k.rights.guards) c.self.view_is
    ∙ ap (λ p. changed_at n (λ g. record g { policies = insert_policy p g.policies }) c.args.self.now.rights.guards) c.in_ok-stored.ensures in
    λ i. record { roles = (c.self.view_is i).rights.roles; members = (c.self.view_is i).rights.members; guards = after i; grants = (c.self.view_is i).rights.grants }
