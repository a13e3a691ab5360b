use Rattle.std.proofs.Common.{◌≡◌, ap, ◌∙◌}
use Rattle.std.specs.Prelude.{slice_set}
use Rattle.iv_access.specs.Rights.{Guard}
use Rattle.iv_access.specs.Changing.{changed_at}
use Rattle.iv_access.proofs.Policies.{slice_set-changed_at}
use Rattle.iv_access.proofs.access.Access.row_security.Goals as goal

pub returns-clause-rights : goal.returns-clause-rights
returns-clause-rights c =
    let n = c.args.table.0 in
    let gs = c.self.inside.guards.items in
    let change : Guard → Guard = λ g. record g { enabled = c.args.enabled; forced = c.args.forced } in
    let after : slice_set gs n c.switch.new.self ≡ changed_at n change c.args.self.now.rights.guards =
    ap (slice_set gs n) c.switch.ensures
    ∙ slice_set-changed_at n change gs c.index_mut-guard.result.now c.index_mut-guard.ensures.value
    ∙ ap (λ k. changed_at n change k.rights.guards) c.self.view_is in
    λ i. record { roles = (c.self.view_is i).rights.roles; members = (c.self.view_is i).rights.members; guards = after i; grants = (c.self.view_is i).rights.grants }
