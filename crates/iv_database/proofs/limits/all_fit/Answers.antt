use Rattle.std.proofs.Common.{◌≡◌, ◌∙◌, ◌≤◌, ◌++◌, sym, ap, subst, length}
use Rattle.iv_zset.specs.Limits.{Breaks}
use Rattle.iv_zset.specs.Weights.{Weighed, IsZSet}
use Rattle.iv_algebra.specs.Contents.{rows_of}
use Rattle.iv_database.specs.Changes.{Change}
use Rattle.iv_database.specs.Summed.{KeepsLimits}
use Rattle.iv_database.specs.Stands.{HasTable}
use Rattle.iv_database.proofs.BagSizes.{keep_taken, IsKept-take_next_table, HasTable-get_or}
use Rattle.iv_database.proofs.limits.all_fit.Goals as goal

pub table-requires : goal.table-requires
table-requires c =
    let s = c.change-item.result in
    let table = HasTable-get_or c.args.tables.now c.args.changes.now c.loop-change.change-index s c.requires.tables c.loop-change-test.true c.change-item.is in
    subst (λ (x : Change). HasTable c.args.tables.now x.rel) (sym c.change.view_is) table.0

pub fits-requires-clause-change : goal.fits-requires-clause-change
fits-requires-clause-change c =
    let s = c.change-item.result in
    let table = HasTable-get_or c.args.tables.now c.args.changes.now c.loop-change.change-index s c.requires.tables c.loop-change-test.true c.change-item.is in
    let rows = c.deref.ensures.value ∙ ap (λ (x : Change). x.rows) c.change.view_is in
    subst IsZSet (table.1 ∙ sym rows) (c.requires.changes s.rel)

pub fits-requires-clause-small : goal.fits-requires-clause-small
fits-requires-clause-small c =
    let s = c.change-item.result in
    let here : rows_of c.args.tables.now s.rel ≡ c.table.result.now = ap (λ (x : Change). rows_of c.args.tables.now x.rel) (sym c.change.view_is) ∙ sym c.table.ensures.rows in
    subst (λ (b : Weighed). length b ≤ c.args.cap) here (c.requires.small s.rel)

pub returns-then-not-fits-clause-breaks : goal.returns-then-not-fits-clause-breaks
returns-then-not-fits-clause-breaks c = λ _.
    let s = c.change-item.result in
    let table = HasTable-get_or c.args.tables.now c.args.changes.now c.loop-change.change-index s c.requires.tables c.loop-change-test.true c.change-item.is in
    let here : rows_of c.args.tables.now s.rel ≡ c.table.result.now = ap (λ (x : Change). rows_of c.args.tables.now x.rel) (sym c.change.view_is) ∙ sym c.table.ensures.rows in
    let rows = c.deref.ensures.value ∙ ap (λ (x : Change). x.rows) c.change.view_is in (
      s.rel,
      table.0,
      subst (λ es. Breaks c.args.cap (es ++ rows_of c.args.tables.now s.rel)) (sym table.1)
          (subst (λ b. Breaks c.args.cap (s.rows ++ b)) (sym here) (subst (λ es. Breaks c.args.cap (es ++ c.table.result.now)) rows (c.fits.ensures.breaks c.if-not-fits.true))),
    )

pub loop-change-preserved : goal.loop-change-preserved
loop-change-preserved c =
    let s = c.change-item.result in
    let here : rows_of c.args.tables.now s.rel ≡ c.table.result.now = ap (λ (x : Change). rows_of c.args.tables.now x.rel) (sym c.change.view_is) ∙ sym c.table.ensures.rows in
    let rows = c.deref.ensures.value ∙ ap (λ (x : Change). x.rows) c.change.view_is in
    IsKept-take_next_table c.args.cap c.args.tables.now c.args.changes.now c.loop-change.change-index s c.loop-change.invariant c.loop-change-test.true c.change-item.is
    (subst (λ b. KeepsLimits c.args.cap b s.rows) (sym here) (subst (KeepsLimits c.args.cap c.table.result.now) rows (c.fits.ensures.keeps c.if-not-fits.false)))

pub returns-clause-keep : goal.returns-clause-keep
returns-clause-keep c = λ _. keep_taken c.args.cap c.args.tables.now c.requires.zsets c.requires.small c.args.changes.now c.loop-change.change-index c.loop-change-test.false c.loop-change.invariant
