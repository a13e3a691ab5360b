use Rattle.std.proofs.Common.{[], ◌∷◌, Err, not, refl, subst, sym}
use Rattle.std.specs.Prelude.{is_some}
use Rattle.iv_access.specs.Policies.{policy_of}
use Rattle.iv_machine.specs.Act as machine
use Rattle.iv_machine.specs.Refusing.{test}
use Rattle.iv_machine.specs.State.{rel_of}
use Rattle.iv_database.specs.Owned.{IsGuarded}
use Rattle.iv_command.specs.declared.stop.Stop.{Stop}
use Rattle.iv_database.proofs.PolicyTests.{IsErrAnd-gives, IsGuarded-IsOwned}
use Rattle.iv_database.proofs.database.Database.drop_policy.Goals as goal

pub returns-in_err-table-clause-guarded : goal.returns-in_err-table-clause-guarded
returns-in_err-table-clause-guarded c =
    let d = c.args.self.now in
    let n = c.args.session in
    let rel = c.args.rel.now in
    let name = c.args.name.now in
    let act = machine.drop_policy rel name in
    let more = test (not (is_some (policy_of d.known.rights (rel_of d.catalog rel) name))) machine.unknown_policy ∷ [] in
    IsErrAnd-gives c.from_residual.result _ (λ r. IsGuarded d n act rel r d) c.from_residual.ensures.1
    (λ stop is. subst (λ (s : Stop). IsGuarded d n act rel (Err s) d) (sym is) (IsGuarded-IsOwned d n act rel c.in_err-table.field-0.0 more refl c.in_err-table.ensures))
