use Rattle.std.proofs.Common.{◌∙◌, refl, subst, sym}
use Rattle.std.specs.Prelude.{string_bytes}
use Rattle.iv_access.specs.Access.{name_given}
use Rattle.iv_machine.specs.Act as machine
use Rattle.iv_database.specs.Database.{IsDatabase}
use Rattle.iv_store.specs.Store.{Store, database_of}
use Rattle.iv_engine.proofs.RevokeEnds.{revoke_steps, revoke_waits}
use Rattle.iv_store.proofs.RequestSteps.{IsStep-IsErrAnd, stopped}
use Rattle.iv_engine.proofs.privileges.revoke.Goals as goal

pub revoke-requires : goal.revoke-requires
revoke-requires c = subst (λ (v : Store). IsDatabase (database_of v)) (sym c.store.view_is) c.requires.stored.database

pub returns-in_err-revoke : goal.returns-in_err-revoke
returns-in_err-revoke c =
    let stop = c.in_err-revoke.field-0.0 in
    IsStep-IsErrAnd c.args.store.now c.args.session (machine.revoke (string_bytes c.args.rel) c.args.privileges.now (name_given c.args.grantee)) _ stop
    (stopped c.args.store.now _ c.revoke.new.self c.args.session (machine.revoke (string_bytes c.args.rel) c.args.privileges.now (name_given c.args.grantee)) c.store.view_is refl stop c.in_err-revoke.ensures.done)
    c.from_residual.result c.from_residual.ensures.1

pub unreadable-requires : goal.unreadable-requires
unreadable-requires c =
    let ready = revoke_waits c.args.store.now _ c.revoke.new.self c.args.session (string_bytes c.args.rel) c.args.privileges.now (name_given c.args.grantee) c.store.view_is c.requires c.in_ok-revoke.ensures.done _ refl in
    record { stored = ready.stored; circuits = ready.were }

pub tell_readers-requires-clause-waiting : goal.tell_readers-requires-clause-waiting
tell_readers-requires-clause-waiting c =
    revoke_waits c.args.store.now _ c.revoke.new.self c.args.session (string_bytes c.args.rel) c.args.privileges.now (name_given c.args.grantee) c.store.view_is c.requires c.in_ok-revoke.ensures.done c.deref.result.now (c.deref.ensures.value ∙ c.in_ok-concerned.ensures)

pub returns : goal.returns
returns c =
    revoke_steps c.args.store.now _ c.revoke.new.self c.args.session (string_bytes c.args.rel) c.args.privileges.now (name_given c.args.grantee) c.store.view_is c.requires c.in_ok-revoke.ensures.done c.deref.result.now (c.deref.ensures.value ∙ c.in_ok-concerned.ensures)
    c.tell_readers.new.self c.in_ok-answer.answer c.in_ok-answer.ensures
