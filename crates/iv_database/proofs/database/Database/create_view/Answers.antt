use Rattle.std.proofs.Common.{◌≡◌, Err, Ok, subst, sym}
use Rattle.std.specs.Prelude.{string_bytes}
use Rattle.iv_access.specs.Rights.{Name}
use Rattle.iv_bind.specs.BoundTexts.{bound_query}
use Rattle.iv_bind.specs.Catalogs.{bound_of}
use Rattle.iv_machine.specs.Act as machine
use Rattle.iv_database.specs.Database.{Database}
use Rattle.iv_database.specs.Defined.{IsBoundView, IsCreator, MayAdd}
use Rattle.iv_database.specs.Next.{IsDone}
use Rattle.iv_command.specs.declared.stop.Stop.{Stop}
use Rattle.iv_database.proofs.NewView.{bound_refused, IsDone-IsCreator, view_done}
use Rattle.iv_database.proofs.PolicyTests.{IsErrAnd-gives}
use Rattle.iv_database.proofs.database.Database.create_view.Goals as goal

pub returns-in_err-acting-clause-done : goal.returns-in_err-acting-clause-done
returns-in_err-acting-clause-done c =
    let e = c.args.self.now in
    let n = c.args.session in
    let owner = c.args.owner.now in
    let query = c.args.query.now in
    let act = machine.create_view (string_bytes c.args.name) owner query in
    IsErrAnd-gives c.from_residual.result _ (λ r. IsDone e n act r e) c.from_residual.ensures.1
    (λ stop is. subst (λ (s : Stop). IsDone e n act (Err s) e) (sym is)
    (IsDone-IsCreator e n (string_bytes c.args.name) owner query c.in_err-acting.field-0.0
    (subst (λ (name : Name). IsCreator e n name owner (Err c.in_err-acting.field-0.0)) c.as_str.ensures.value c.in_err-acting.ensures)))

pub returns-in_err-bound-clause-done : goal.returns-in_err-bound-clause-done
returns-in_err-bound-clause-done c =
    let e = c.args.self.now in
    let n = c.args.session in
    let owner = c.args.owner.now in
    let query = c.args.query.now in
    let act = machine.create_view (string_bytes c.args.name) owner query in
    let may = subst (λ (name : Name). MayAdd e n name owner c.in_ok-acting.acting) c.as_str.ensures.value c.in_ok-acting.ensures in
    IsErrAnd-gives c.from_residual-in_err-bound.result _ (λ r. IsDone e n act r e) c.from_residual-in_err-bound.ensures.1
    (λ stop is. subst (λ (s : Stop). IsDone e n act (Err s) e) (sym is)
    (bound_refused e n (string_bytes c.args.name) owner query c.in_ok-acting.acting may c.in_err-bound.field-0.0
    (subst (λ (v : Database). IsBoundView (bound_query v.catalog query) (Err c.in_err-bound.field-0.0)) c.self.view_is c.in_err-bound.ensures.bound)))

pub returns-clause-done : goal.returns-clause-done
returns-clause-done c =
    let e = c.args.self.now in
    let n = c.args.session in
    let owner = c.args.owner.now in
    let query = c.args.query.now in
    let may = subst (λ (name : Name). MayAdd e n name owner c.in_ok-acting.acting) c.as_str.ensures.value c.in_ok-acting.ensures in
    view_done e n (string_bytes c.args.name) owner query c.in_ok-acting.acting may (bound_of c.in_ok-bound.bound)
    (subst (λ (v : Database). bound_query v.catalog query ≡ Ok (bound_of c.in_ok-bound.bound)) c.self.view_is c.in_ok-bound.ensures.bound)
    c.add_view.result c.add_view.new.self c.add_view.ensures.added
