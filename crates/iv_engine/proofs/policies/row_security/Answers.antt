use Rattle.std.proofs.Common.{subst, sym}
use Rattle.iv_machine.specs.Act.{row_security}
use Rattle.iv_database.specs.Database.{IsDatabase}
use Rattle.iv_store.specs.Store.{Store, database_of}
use Rattle.iv_engine.proofs.GuardChanges.{guard_steps, guard_stops, guard_waits, IsGuarding-row_security}
use Rattle.iv_store.proofs.RequestSteps.{IsStep-IsErrAnd}
use Rattle.iv_engine.proofs.policies.row_security.Goals as goal

pub row_security-requires : goal.row_security-requires
row_security-requires c = subst (λ (v : Store). IsDatabase (database_of v)) (sym c.store.view_is) c.requires.stored.database

pub returns-in_err-table : goal.returns-in_err-table
returns-in_err-table c =
    IsStep-IsErrAnd c.args.store.now c.args.session (row_security c.args.rel.now c.args.enable c.args.force) _ c.in_err-table.field-0.0
    (guard_stops c.args.store.now _ c.row_security.new.self c.args.session (row_security c.args.rel.now c.args.enable c.args.force) c.args.rel.now c.store.view_is (IsGuarding-row_security c.args.store.now c.args.session c.args.rel.now c.args.enable c.args.force) c.requires c.in_err-table.field-0.0 c.in_err-table.ensures.guarded)
    c.from_residual.result c.from_residual.ensures.1

pub tell_of-requires-clause-waiting : goal.tell_of-requires-clause-waiting
tell_of-requires-clause-waiting c =
    guard_waits c.args.store.now _ c.row_security.new.self c.args.session (row_security c.args.rel.now c.args.enable c.args.force) c.args.rel.now c.store.view_is (IsGuarding-row_security c.args.store.now c.args.session c.args.rel.now c.args.enable c.args.force) c.requires c.in_ok-table.table c.in_ok-table.ensures.guarded

pub returns : goal.returns
returns c =
    guard_steps c.args.store.now _ c.row_security.new.self c.args.session (row_security c.args.rel.now c.args.enable c.args.force) c.args.rel.now c.store.view_is (IsGuarding-row_security c.args.store.now c.args.session c.args.rel.now c.args.enable c.args.force) c.requires c.in_ok-table.table c.in_ok-table.ensures.guarded
    c.tell_of.new.store c.in_ok-answer.answer c.in_ok-answer.ensures
