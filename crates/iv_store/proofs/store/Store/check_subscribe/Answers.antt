use Rattle.std.proofs.Common.{Err, subst, sym}
use Rattle.iv_database.specs.Database.{IsDatabase}
use Rattle.iv_database.specs.Target.{IsActingOn}
use Rattle.iv_store.specs.Store.{Store, database_of}
use Rattle.iv_store.specs.Openable.{MayOpen}
use Rattle.iv_command.specs.declared.stop.Stop.{Stop}
use Rattle.iv_database.proofs.PolicyTests.{IsErrAnd-gives}
use Rattle.iv_store.proofs.NewSubscription.{MayOpen-IsActingOn}
use Rattle.iv_store.proofs.store.Store.check_subscribe.Goals as goal

pub acting_on-requires : goal.acting_on-requires
acting_on-requires c = subst (λ (v : Store). IsDatabase (database_of v)) (sym c.self.view_is) c.requires.database

pub returns-in_err-acting : goal.returns-in_err-acting
returns-in_err-acting c =
    let e = c.args.self.now in
    let n = c.args.session in
    let name = c.args.rel.now in
    IsErrAnd-gives c.from_residual.result _ (MayOpen e n name) c.from_residual.ensures.1
    (λ stop is. subst (λ (s : Stop). MayOpen e n name (Err s)) (sym is)
    (MayOpen-IsActingOn e n name c.in_err-acting.field-0.0 (subst (λ (v : Store). IsActingOn (database_of v) n name (Err c.in_err-acting.field-0.0)) c.self.view_is c.in_err-acting.ensures)))

pub name_of-requires : goal.name_of-requires
name_of-requires c = subst (λ (v : Store). IsDatabase (database_of v)) (sym c.self.view_is) c.requires.database
