use Rattle.std.proofs.Common.{◌∙◌, Err, ap, subst, sym}
use Rattle.std.specs.Prelude.{Ok}
use Rattle.iv_access.specs.Rights.{Name}
use Rattle.iv_machine.specs.Act.{PolicyText}
use Rattle.iv_database.specs.Owned.{IsChecked, IsOwner}
use Rattle.iv_command.specs.declared.stop.Stop.{Stop}
use Rattle.iv_database.proofs.PolicyTests.{checked, IsErrAnd-gives, names_stop}
use Rattle.iv_database.proofs.database.Database.check_policy.Goals as goal

pub returns-in_err-check_names : goal.returns-in_err-check_names
returns-in_err-check_names c =
    let e = c.args.self.now in
    let n = c.args.session in
    let owner = subst (λ (rel : Name). IsOwner e n rel c.in_ok-table.table) (c.as_str.ensures.value ∙ ap (λ (p : PolicyText). p.rel) c.policy.view_is) c.in_ok-table.ensures in
    IsErrAnd-gives c.from_residual-in_err-check_names.result _ (IsChecked e n c.args.policy.now) c.from_residual-in_err-check_names.ensures.1
    (λ stop is. subst (λ (s : Stop). IsChecked e n c.args.policy.now (Err s)) (sym is) (names_stop e n c.args.policy.now c.in_ok-table.table owner c.in_err-check_names.field-0.0 c.in_err-check_names.ensures))

pub returns-in_err-predicates : goal.returns-in_err-predicates
returns-in_err-predicates c =
    let e = c.args.self.now in
    let n = c.args.session in
    let owner = subst (λ (rel : Name). IsOwner e n rel c.in_ok-table.table) (c.as_str.ensures.value ∙ ap (λ (p : PolicyText). p.rel) c.policy.view_is) c.in_ok-table.ensures in
    let schema = c.schema-schema.result.now in
    let at = c.schema-schema.ensures in
    IsErrAnd-gives c.from_residual-in_err-predicates.result _ (IsChecked e n c.args.policy.now) c.from_residual-in_err-predicates.ensures.1
    (λ stop is. subst (λ (s : Stop). IsChecked e n c.args.policy.now (Err s)) (sym is)
    (checked e n c.args.policy.now c.in_ok-table.table owner schema (Err c.in_err-predicates.field-0.0) at c.in_ok-check_names.ensures c.in_err-predicates.ensures))

pub returns : goal.returns
returns c =
    let e = c.args.self.now in
    let n = c.args.session in
    let owner = subst (λ (rel : Name). IsOwner e n rel c.in_ok-table.table) (c.as_str.ensures.value ∙ ap (λ (p : PolicyText). p.rel) c.policy.view_is) c.in_ok-table.ensures in
    let schema = c.schema-schema.result.now in
    let at = c.schema-schema.ensures in
    checked e n c.args.policy.now c.in_ok-table.table owner schema (Ok c.in_ok-predicates.predicates) at c.in_ok-check_names.ensures c.in_ok-predicates.ensures
