use Rattle.std.proofs.Common.{Err, subst, sym}
use Rattle.iv_database.specs.Owned.{IsOwned}
use Rattle.iv_command.specs.declared.stop.Stop.{Stop}
use Rattle.iv_database.proofs.PolicyTests.{IsErrAnd-gives, IsOwned-IsActingOn}
use Rattle.iv_database.proofs.database.Database.owned.Goals as goal

pub returns-in_err-acting : goal.returns-in_err-acting
returns-in_err-acting c =
    let e = c.args.self.now in
    let n = c.args.session in
    let rel = c.args.rel.now in
    IsErrAnd-gives c.from_residual.result _ (IsOwned e n rel) c.from_residual.ensures.1
    (λ stop is. subst (λ (s : Stop). IsOwned e n rel (Err s)) (sym is) (IsOwned-IsActingOn e n rel c.in_err-acting.field-0.0 c.in_err-acting.ensures))
