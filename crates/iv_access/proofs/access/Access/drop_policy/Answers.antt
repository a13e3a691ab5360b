use Rattle.std.proofs.Common.{◌≡◌, ap, ◌∙◌}
use Rattle.std.specs.Prelude.{slice_set}
use Rattle.iv_access.specs.Rights.{Guard}
use Rattle.iv_access.specs.Changing.{changed_at, remove_policy}
use Rattle.iv_access.proofs.Policies.{slice_set-changed_at}
use Rattle.iv_access.proofs.access.Access.drop_policy.Goals as goal

pub returns-clause-rights : goal.returns-clause-rights
returns-clause-rights c =
    let n = c.args.table.0 in
    let gs = c.self.inside.guards.items in
    let change : Guard → Guard = λ g. record g { policies = remove_policy c.args.name.now g.policies } in
    let after : slice_set gs n c.remove.new.self ≡ changed_at n change c.args.self.now.rights.guards =
    ap (slice_set gs n) c.remove.ensures
    ∙ slice_set-changed_at n change gs c.index_mut-guard.result.now c.index_mut-guard.ensures.value
    ∙ ap (λ k. changed_at n change k.rights.guards) c.self.view_is in
    λ i. record { roles = (c.self.view_is i).rights.roles; members = (c.self.view_is i).rights.members; guards = after i; grants = (c.self.view_is i).rights.grants }
