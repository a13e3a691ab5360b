use Rattle.std.proofs.Common.{◌++◌, ℕ, Err, List, sym, subst}
use Rattle.iv_machine.specs.Act.{Entry}
use Rattle.iv_zset.specs.Limits.{Breaks}
use Rattle.iv_zset.specs.Weights.{IsZSet}
use Rattle.iv_algebra.specs.Contents.{rows_of}
use Rattle.iv_database.specs.Changes.{Change, change_at}
use Rattle.iv_database.specs.Database.{Database}
use Rattle.iv_database.specs.Stands.{HasTable}
use Rattle.iv_database.specs.Resolving.{IsNetOf, Leads}
use Rattle.iv_database.specs.Summed.{AreTables, KeepsLimits}
use Rattle.iv_command.specs.declared.stop.Stop.{Stop}
use Rattle.iv_database.proofs.WriteRefusals.{by_limit, IsNetOf-AreChecked, Leads-sums, IsNetOf-AreSummed, IsNetOf-AreFinished, lt-is_well_act, is_positive-is_well_act}
use Rattle.iv_database.proofs.PolicyTests.{IsErrAnd-gives}
use Rattle.iv_database.proofs.database.Database.net.Goals as goal

pub returns-in_err-entries : goal.returns-in_err-entries
returns-in_err-entries c =
    let e = c.args.self.now in
    let n = c.args.session in
    let es = c.args.entries.items in
    IsErrAnd-gives c.from_residual.result _ (IsNetOf e n es) c.from_residual.ensures.1
    (λ stop is. subst (λ (s : Stop). IsNetOf e n es (Err s)) (sym is) (IsNetOf-AreChecked e n es c.in_err-entries.field-0.0 c.in_err-entries.ensures))

pub gathered-requires-clause-placed : goal.gathered-requires-clause-placed
gathered-requires-clause-placed c = c.in_ok-entries.ensures.2

pub gathered-requires-clause-some : goal.gathered-requires-clause-some
gathered-requires-clause-some c = is_positive-is_well_act c.args.entries.items c.in_ok-entries.entries.items c.in_ok-entries.ensures.1 c.requires.well

pub gathered-requires-clause-few : goal.gathered-requires-clause-few
gathered-requires-clause-few c = lt-is_well_act c.args.entries.items c.in_ok-entries.entries.items c.in_ok-entries.ensures.1 c.requires.well

pub returns-in_err-sums : goal.returns-in_err-sums
returns-in_err-sums c =
    let e = c.args.self.now in
    let n = c.args.session in
    let es = c.args.entries.items in
    let checked = c.in_ok-entries.ensures in
    IsErrAnd-gives c.from_residual-in_err-sums.result _ (IsNetOf e n es) c.from_residual-in_err-sums.ensures.1
    (λ stop is. subst (λ (s : Stop). IsNetOf e n es (Err s)) (sym is) (IsNetOf-AreSummed e n es c.in_ok-entries.entries.items checked.0 checked.1 c.in_err-sums.field-0.0 c.in_err-sums.ensures))

pub returns-in_err-changes : goal.returns-in_err-changes
returns-in_err-changes c =
    let e = c.args.self.now in
    let n = c.args.session in
    let es = c.args.entries.items in
    let sums = c.in_ok-sums.sums.items in
    let checked = c.in_ok-entries.ensures in
    let summed = c.in_ok-sums.ensures in
    IsErrAnd-gives c.from_residual-in_err-changes.result _ (IsNetOf e n es) c.from_residual-in_err-changes.ensures.1
    (λ stop is. subst (λ (s : Stop). IsNetOf e n es (Err s)) (sym is)
    (IsNetOf-AreFinished e n es c.requires.stored checked.0 sums (λ T s. subst (λ (xs : List Entry). Leads e xs sums T) (sym checked.1) (summed.1 T s)) c.in_err-changes.field-0.0
    (c.in_err-changes.ensures e.tables summed.0)))

pub all_fit-requires-clause-tables : goal.all_fit-requires-clause-tables
all_fit-requires-clause-tables c =
    let e = c.args.self.now in
    let sums = c.in_ok-sums.sums.items in
    let summed = c.in_ok-sums.ensures in
    let made = c.in_ok-changes.ensures e.tables summed.0 in
    subst (AreTables c.self.inside.tables) (sym c.deref.ensures.value) (subst (λ (v : Database). AreTables v.tables c.in_ok-changes.changes.items) (sym c.self.view_is) made.tables_are)

pub all_fit-requires-clause-changes : goal.all_fit-requires-clause-changes
all_fit-requires-clause-changes c =
    let e = c.args.self.now in
    let sums = c.in_ok-sums.sums.items in
    let summed = c.in_ok-sums.ensures in
    let made = c.in_ok-changes.ensures e.tables summed.0 in
    subst (λ (cs : List Change). (t : ℕ) → IsZSet (change_at cs t)) (sym c.deref.ensures.value) (λ t. (made.net t).zset)

pub returns-then-not-all_fit : goal.returns-then-not-all_fit
returns-then-not-all_fit c = λ T s.
    let e = c.args.self.now in
    let n = c.args.session in
    let es = c.args.entries.items in
    let sums = c.in_ok-sums.sums.items in
    let changes = c.in_ok-changes.changes.items in
    let checked = c.in_ok-entries.ensures in
    let summed = c.in_ok-sums.ensures in
    let made = c.in_ok-changes.ensures e.tables summed.0 in
    let leads = Leads-sums e es sums changes T (subst (λ (xs : List Entry). Leads e xs sums T) (sym checked.1) (summed.1 T s)) made.same in
    let b = c.all_fit.ensures.breaks c.if-not-all_fit.true in
    by_limit e n es c.requires.stored checked.0 changes T s leads b.0 (subst (λ (v : Database). HasTable v.tables b.0) c.self.view_is b.1)
    (subst (λ (v : Database). Breaks v.cap (change_at changes b.0 ++ rows_of v.tables b.0)) c.self.view_is
    (subst (λ (cs : List Change). Breaks c.self.inside.cap (change_at cs b.0 ++ rows_of c.self.inside.tables b.0)) c.deref.ensures.value b.2))

pub returns : goal.returns
returns c =
    let e = c.args.self.now in
    let n = c.args.session in
    let es = c.args.entries.items in
    let sums = c.in_ok-sums.sums.items in
    let changes = c.in_ok-changes.changes.items in
    let checked = c.in_ok-entries.ensures in
    let summed = c.in_ok-sums.ensures in
    let made = c.in_ok-changes.ensures e.tables summed.0 in
    record {
      frame = checked.0;
      tables = made.tables_are;
      net = made.net;
      leads = λ T s. Leads-sums e es sums changes T (subst (λ (xs : List Entry). Leads e xs sums T) (sym checked.1) (summed.1 T s)) made.same;
      keep = λ t. subst (λ (v : Database). KeepsLimits v.cap (rows_of v.tables t) (change_at changes t)) c.self.view_is
          (subst (λ (cs : List Change). KeepsLimits c.self.inside.cap (rows_of c.self.inside.tables t) (change_at cs t)) c.deref.ensures.value (c.all_fit.ensures.keep c.if-not-all_fit.false t));
    }
