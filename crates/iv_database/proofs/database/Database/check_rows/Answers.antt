use Rattle.std.proofs.Common.{◌∙◌, suc, List, ◌∷◌, Option, Err, ap, drop, map, subst, sym}
use Rattle.std.proofs.Math.Seq.{drop-cons}
use Rattle.std.specs.Borrow.{Bor}
use Rattle.iv_rows.specs.Cell.{Cell}
use Rattle.iv_access.specs.declared.policy.Check.{Check}
use Rattle.iv_machine.specs.Act.{Refusal}
use Rattle.iv_machine.specs.Refusing.{entry_check, first}
use Rattle.iv_database.specs.Database.{frame_of}
use Rattle.iv_database.specs.Placed.{first_of}
use Rattle.iv_command.specs.Stops.{IsTested}
use Rattle.iv_command.specs.declared.stop.Stop.{Stop}
use Rattle.iv_database.proofs.FrameTests.{IsTested-Err}
use Rattle.iv_database.proofs.PolicyTests.{IsErrAnd-gives}
use Rattle.iv_database.proofs.database.Database.check_rows.Goals as goal

pub returns-in_err-check_row : goal.returns-in_err-check_row
returns-in_err-check_row c =
    let tests = c.args.tests.now in
    let i = c.loop-test.test-index in
    let check = entry_check (frame_of c.args.self.now) c.args.acting.0 c.args.number c.args.entry.now.name in
    let f : Check × Bor (List Cell) → Option Refusal = λ t. check (t.0, t.1.now) in
    let rest = first (map f (drop (suc i) tests)) in
    let here = c.loop-test.invariant ∙ ap (λ (ts : List (Check × Bor (List Cell))). first (map f ts)) (drop-cons tests i c.loop-test-item.result c.loop-test-test.true ∙ ap (λ (t : Check × Bor (List Cell)). t ∷ drop (suc i) tests) (sym c.loop-test-item.is)) in
    IsErrAnd-gives c.from_residual.result _ (IsTested (first_of check tests)) c.from_residual.ensures.1
    (λ stop is. subst (λ (s : Stop). IsTested (first_of check tests) (Err s)) (sym is)
    (subst (λ (o : Option Refusal). IsTested o (Err c.in_err-check_row.field-0.0)) (sym here) (IsTested-Err (f c.loop-test-item.result) rest c.in_err-check_row.field-0.0 c.in_err-check_row.ensures)))
