use Rattle.std.proofs.Common.{◌∙◌, subst, sym}
use Rattle.iv_algebra.specs.Shapes.{condition_of}
use Rattle.iv_machine.specs.Act.{drop_policy}
use Rattle.iv_database.specs.Database.{IsDatabase}
use Rattle.iv_store.specs.Store.{Store, database_of}
use Rattle.iv_engine.proofs.GuardChanges.{IsGuarding-drop_policy, guard_steps, guard_waits}
use Rattle.iv_engine.proofs.WiderPolicies.{IsNarrowed-drop_policy}
use Rattle.iv_engine.proofs.policies.drop_policy.Goals as goal

pub drop_policy-requires : goal.drop_policy-requires
drop_policy-requires c = subst (λ (v : Store). IsDatabase (database_of v)) (sym c.store.view_is) c.requires.stored.database

pub tell_of-answer-requires-clause-within : goal.tell_of-answer-requires-clause-within
tell_of-answer-requires-clause-within c = λ some.
    IsNarrowed-drop_policy (λ h. h.now) c.as_ref.result condition_of c.in_ok-restriction.restriction c.in_ok-hidden-in-Ok.hidden c.as_ref.ensures.value
    c.args.store.now _ c.drop_policy.new.self c.args.session c.args.rel.now c.args.name.now c.store.view_is c.requires c.in-Ok.table
    c.in-Ok.ensures.guarded
    c.in_ok-restriction.ensures
    c.in_ok-hidden-in-Ok.ensures
    (sym c.is_some.ensures ∙ some)

pub tell_of-answer-requires-clause-waiting : goal.tell_of-answer-requires-clause-waiting
tell_of-answer-requires-clause-waiting c =
    guard_waits c.args.store.now _ c.drop_policy.new.self c.args.session (drop_policy c.args.rel.now c.args.name.now) c.args.rel.now c.store.view_is (IsGuarding-drop_policy c.args.store.now c.args.session c.args.rel.now c.args.name.now) c.requires c.in-Ok.table c.in-Ok.ensures.guarded

pub returns-in_ok-answer-in-Ok : goal.returns-in_ok-answer-in-Ok
returns-in_ok-answer-in-Ok c =
    guard_steps c.args.store.now _ c.drop_policy.new.self c.args.session (drop_policy c.args.rel.now c.args.name.now) c.args.rel.now c.store.view_is (IsGuarding-drop_policy c.args.store.now c.args.session c.args.rel.now c.args.name.now) c.requires c.in-Ok.table c.in-Ok.ensures.guarded
    c.tell_of-answer.new.store c.in_ok-answer-in-Ok.field-0 c.in_ok-answer-in-Ok.ensures
