use Rattle.std.proofs.Common.{◌∙◌, ap, sym}
use Rattle.std.specs.Prelude.{option_map, string_bytes}
use Rattle.iv_roles.specs.declared.role.RoleId.{RoleId}
use Rattle.iv_database.specs.Database.{Database}
use Rattle.iv_database.proofs.MembershipChanges.{parted_done, without_memory}
use Rattle.iv_database.proofs.database.Database.revoke_role.Goals as goal

pub returns-clause-done : goal.returns-clause-done
returns-clause-done c =
    let s = c.self.inside in
    let u : Database = record { cap = s.cap; known = s.access; catalog = s.catalog; sessions = s.sessions.items; tables = s.tables } in
    let acting = ap (option_map (λ (r : RoleId). r.0)) (sym c.in-Some.is) ∙ c.actor.ensures in
    let h = c.revoke_role-change.ensures in
    parted_done u c.args.self.now c.revoke_role-change.new.self c.args.session c.in-Some.acting.0 c.as_str.result.now (string_bytes c.args.role) c.args.to.now c.revoke_role-change.result c.outcome.result
    c.self.view_is c.as_str.ensures.value acting c.outcome.ensures
    (record { rights = h.ok; relations = h.relations; ok_when = h.ok_when; err_when = without_memory c.revoke_role-change.result _ c.revoke_role-change.ensures.err_when; unchanged = h.unchanged })
