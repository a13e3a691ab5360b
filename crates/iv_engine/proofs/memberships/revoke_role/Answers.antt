use Rattle.std.proofs.Common.{◌∙◌, ap, refl}
use Rattle.std.specs.Prelude.{string_bytes}
use Rattle.iv_access.specs.Privileges.{role_of}
use Rattle.iv_machine.specs.Act.{revoke_role}
use Rattle.iv_store.specs.Store.{Store}
use Rattle.iv_engine.proofs.MembershipRequests.{enrolled_long, enrolled_steps, enrolled_waits, IsEnrolling-revoke_role}
use Rattle.iv_store.proofs.RequestSteps.{IsStep-IsErrAnd, stopped}
use Rattle.iv_engine.proofs.memberships.revoke_role.Goals as goal

pub returns-in_err-revoke_role : goal.returns-in_err-revoke_role
returns-in_err-revoke_role c =
    let stop = c.in_err-revoke_role.field-0.0 in
    IsStep-IsErrAnd c.args.store.now c.args.session (revoke_role (string_bytes c.args.role) c.args.to.now) _ stop (stopped c.args.store.now _ c.revoke_role.new.self c.args.session (revoke_role (string_bytes c.args.role) c.args.to.now) c.store.view_is refl stop c.in_err-revoke_role.ensures.done)
    c.from_residual-in_err-revoke_role.result c.from_residual-in_err-revoke_role.ensures.1

pub tell_members-requires-clause-long : goal.tell_members-requires-clause-long
tell_members-requires-clause-long c =
    enrolled_long c.args.store.now _ c.revoke_role.new.self c.args.session _ (string_bytes c.args.role) c.store.view_is (IsEnrolling-revoke_role c.args.store.now c.args.session (string_bytes c.args.role) c.args.to.now c.requires) c.in_ok-revoke_role.ensures.done c.role-group.result c.deref.result.now (c.deref.ensures.value ∙ c.in_ok-before.ensures)

pub tell_members-requires-clause-waiting : goal.tell_members-requires-clause-waiting
tell_members-requires-clause-waiting c =
    enrolled_waits c.args.store.now _ c.revoke_role.new.self c.args.session _ (string_bytes c.args.role) c.store.view_is (IsEnrolling-revoke_role c.args.store.now c.args.session (string_bytes c.args.role) c.args.to.now c.requires) c.in_ok-revoke_role.ensures.done c.role-group.result c.deref.result.now (c.deref.ensures.value ∙ c.in_ok-before.ensures)
    (c.role-group.ensures ∙ (λ i. role_of (c.access.ensures i).rights (c.as_str.ensures.value i)) ∙ ap (λ (v : Store). role_of v.known.rights (string_bytes c.args.role)) c.store.view_is)

pub returns : goal.returns
returns c =
    enrolled_steps c.args.store.now _ c.revoke_role.new.self c.args.session _ (string_bytes c.args.role) c.store.view_is (IsEnrolling-revoke_role c.args.store.now c.args.session (string_bytes c.args.role) c.args.to.now c.requires) c.in_ok-revoke_role.ensures.done c.role-group.result c.deref.result.now (c.deref.ensures.value ∙ c.in_ok-before.ensures)
    (c.role-group.ensures ∙ (λ i. role_of (c.access.ensures i).rights (c.as_str.ensures.value i)) ∙ ap (λ (v : Store). role_of v.known.rights (string_bytes c.args.role)) c.store.view_is)
    c.tell_members.new.store c.in_ok-answer.answer c.in_ok-answer.ensures
