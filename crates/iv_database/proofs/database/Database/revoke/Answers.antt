use Rattle.std.proofs.Common.{[], ◌∷◌, Err, refl, subst, sym}
use Rattle.std.specs.Prelude.{string_bytes}
use Rattle.iv_access.specs.Access.{name_given}
use Rattle.iv_access.specs.Rights.{Name}
use Rattle.iv_machine.specs.Act as machine
use Rattle.iv_machine.specs.Refusing.{known_grantee, owner_alone}
use Rattle.iv_machine.specs.State.{actor}
use Rattle.iv_database.specs.Database.{Database, frame_of}
use Rattle.iv_database.specs.Next.{IsDone}
use Rattle.iv_database.specs.Target.{IsActingOn}
use Rattle.iv_command.specs.declared.stop.Stop.{Stop}
use Rattle.iv_database.proofs.MembershipChanges.{without_memory}
use Rattle.iv_database.proofs.GrantChanges.{taken_done}
use Rattle.iv_database.proofs.PolicyTests.{IsDone-IsActingOn, IsErrAnd-gives}
use Rattle.iv_database.proofs.database.Database.revoke.Goals as goal

pub returns-in_err-acting-clause-done : goal.returns-in_err-acting-clause-done
returns-in_err-acting-clause-done c =
    let e = c.args.self.now in
    let f = frame_of e in
    let n = c.args.session in
    let rel = string_bytes c.args.rel in
    let to = name_given c.args.grantee in
    let act = machine.revoke rel c.args.privileges.now to in
    IsErrAnd-gives c.from_residual.result _ (λ r. IsDone e n act r e) c.from_residual.ensures.1
    (λ stop is. subst (λ (s : Stop). IsDone e n act (Err s) e) (sym is)
    (IsDone-IsActingOn e n act rel c.in_err-acting.field-0.0 (owner_alone f (actor f n) rel ∷ known_grantee f to ∷ []) refl
    (subst (λ (name : Name). IsActingOn e n name (Err c.in_err-acting.field-0.0)) c.as_str.ensures.value c.in_err-acting.ensures)))

pub returns-clause-done : goal.returns-clause-done
returns-clause-done c =
    let s = c.self.inside in
    let u : Database = record { cap = s.cap; known = s.access; catalog = s.catalog; sessions = s.sessions.items; tables = s.tables } in
    let h = c.revoke-change.ensures in
    taken_done u c.args.self.now c.revoke-change.new.self c.args.session c.in_ok-acting.acting.0 c.in_ok-acting.number.0 c.as_str.result.now (string_bytes c.args.rel) c.args.privileges.now (name_given c.args.grantee)
    c.revoke-change.result c.outcome.result c.self.view_is c.as_str.ensures.value c.in_ok-acting.ensures c.outcome.ensures
    (record { rights = h.ok; relations = h.relations; ok_when = h.ok_when; err_when = without_memory c.revoke-change.result _ c.revoke-change.ensures.err_when; unchanged = h.unchanged })
