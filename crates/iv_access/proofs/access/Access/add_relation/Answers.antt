use Rattle.std.proofs.Common.{rules, ◌≡◌, Some, subst}
use Rattle.iv_access.specs.Faults.{add_relation_fault}
use Rattle.iv_access.proofs.access.Access.add_relation.Goals as goal

pub returns-in_err-owner-clause-err_when : goal.returns-in_err-owner-clause-err_when
returns-in_err-owner-clause-err_when c =
    let told : add_relation_fault c.args.self.now c.args.acting.0 c.args.name.now c.args.owner.now (Rattle.std.specs.Prelude.is_some c.args.kinds) ≡ Some c.in_err-owner.field-0.0 =
    subst (λ b. add_relation_fault c.args.self.now c.args.acting.0 c.args.name.now c.args.owner.now b ≡ Some c.in_err-owner.field-0.0) c.is_some.ensures c.in_err-owner.ensures.err_when in
    search (rules, told)
