use Rattle.std.proofs.Common.{[], Err, refl, subst, sym}
use Rattle.iv_machine.specs.Act as machine
use Rattle.iv_database.specs.Owned.{IsGuarded}
use Rattle.iv_command.specs.declared.stop.Stop.{Stop}
use Rattle.iv_database.proofs.PolicyTests.{IsErrAnd-gives, IsGuarded-IsOwned}
use Rattle.iv_database.proofs.database.Database.row_security.Goals as goal

pub returns-in_err-table-clause-guarded : goal.returns-in_err-table-clause-guarded
returns-in_err-table-clause-guarded c =
    let d = c.args.self.now in
    let n = c.args.session in
    let rel = c.args.rel.now in
    let act = machine.row_security rel c.args.enable c.args.force in
    IsErrAnd-gives c.from_residual.result _ (λ r. IsGuarded d n act rel r d) c.from_residual.ensures.1
    (λ stop is. subst (λ (s : Stop). IsGuarded d n act rel (Err s) d) (sym is) (IsGuarded-IsOwned d n act rel c.in_err-table.field-0.0 [] refl c.in_err-table.ensures))
