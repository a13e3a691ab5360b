use Rattle.std.proofs.Common.{◌∙◌, ap, subst, sym}
use Rattle.iv_machine.specs.Act.{PolicyText, create_policy}
use Rattle.iv_database.specs.Database.{IsDatabase}
use Rattle.iv_store.specs.Store.{Store, database_of}
use Rattle.iv_engine.proofs.GuardChanges.{guard_steps, guard_stops, guard_waits, IsGuarding-create_policy}
use Rattle.iv_engine.proofs.NarrowerPolicies.{IsNarrowed-create_policy}
use Rattle.iv_store.proofs.RequestSteps.{IsStep-IsErrAnd}
use Rattle.iv_engine.proofs.policies.create_policy.Goals as goal

pub create_policy-requires : goal.create_policy-requires
create_policy-requires c = subst (λ (v : Store). IsDatabase (database_of v)) (sym c.store.view_is) c.requires.stored.database

pub returns-in_err-table : goal.returns-in_err-table
returns-in_err-table c =
    IsStep-IsErrAnd c.args.store.now c.args.session (create_policy c.args.policy) _ c.in_err-table.field-0.0
    (guard_stops c.args.store.now _ c.create_policy.new.self c.args.session (create_policy c.args.policy) c.args.policy.rel c.store.view_is (IsGuarding-create_policy c.args.store.now c.args.session c.args.policy) c.requires c.in_err-table.field-0.0
    c.in_err-table.ensures.guarded)
    c.from_residual.result c.from_residual.ensures.1

pub tell_of-requires-clause-within : goal.tell_of-requires-clause-within
tell_of-requires-clause-within c = λ restrictive.
    IsNarrowed-create_policy c.args.store.now _ c.create_policy.new.self c.args.session c.args.policy c.store.view_is c.requires c.in_ok-table.table c.in_ok-table.ensures.guarded
    (ap (λ (p : PolicyText). p.restrictive) (sym c.policy.view_is) ∙ restrictive)

pub tell_of-requires-clause-waiting : goal.tell_of-requires-clause-waiting
tell_of-requires-clause-waiting c =
    guard_waits c.args.store.now _ c.create_policy.new.self c.args.session (create_policy c.args.policy) c.args.policy.rel c.store.view_is (IsGuarding-create_policy c.args.store.now c.args.session c.args.policy) c.requires c.in_ok-table.table
    c.in_ok-table.ensures.guarded

pub returns : goal.returns
returns c =
    guard_steps c.args.store.now _ c.create_policy.new.self c.args.session (create_policy c.args.policy) c.args.policy.rel c.store.view_is (IsGuarding-create_policy c.args.store.now c.args.session c.args.policy) c.requires c.in_ok-table.table
    c.in_ok-table.ensures.guarded
    c.tell_of.new.store c.in_ok-answer.answer c.in_ok-answer.ensures
