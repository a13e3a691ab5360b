use Rattle.std.proofs.Common.{◌∙◌, ◌+◌, ◌≤◌, ◌-◌, sym, ap, subst, refl, arith, rules, w64}
use Rattle.std.specs.Prelude.{◌+ℤ◌, nat_le}
use Rattle.std.proofs.lemmas.Int.{to_z-of_z}
use mir.Val.{SFits}
use Rattle.iv_zset.specs.Support.{one_for}
use Rattle.iv_zset.specs.Weights.{InRange}
use Rattle.iv_zset.proofs.Support.{rows_in-IsZSet, rows_in-append}
use Rattle.iv_database.proofs.BagSizes.{breaks, counted_next, rows_in-start, SFits-slice_get, keeps, range_next, range_out, InRange-start, slice_get-at_place}
use Rattle.iv_database.proofs.limits.fits_counted.Goals as goal

pub loop-row-init : goal.loop-row-init
loop-row-init c = record {
  in_range = InRange-start c.args.bag.now c.rows-rows.ensures.zset;
  counted = rows_in-start c.args.bag.now c.rows-rows.result c.rows-rows.ensures.zset c.rows-rows.ensures.rows;
  more = omega arith;
  less = omega arith;
}

pub returns-in_default-clause-breaks : goal.returns-in_default-clause-breaks
returns-in_default-clause-breaks c = λ _.
    let k = c.loop-row.row-index in
    let row = c.loop-row-item.result.0 in
    let w = c.loop-row-item.result.1 in
    let here = slice_get-at_place c.args.change.now k c.loop-row-item.result c.loop-row-test.true c.loop-row-item.is in
    let fits = SFits-slice_get c.args.change.now k row w c.requires.change here in
    let old : SFits w64 c.weight-before.result = search rules in
    range_out c.args.bag.now c.args.change.now k row w c.requires.change here c.args.cap
    (λ r. c.in_default.ensures.none.0 refl (subst InRange (sym ((λ i. to_z-of_z w64 w fits i +ℤ to_z-of_z w64 c.weight-before.result old i) ∙ ap (λ x. w +ℤ x) c.weight-before.ensures.weight)) r))

pub overflow_add-added : goal.overflow_add-added
overflow_add-added c =
    let more = c.loop-row.invariant.more in
    let one = c.one_if_zero-added.ensures in
    let l = c.loop-row-test.true in
    omega (arith, more, one, l)

pub overflow_add-vanished : goal.overflow_add-vanished
overflow_add-vanished c =
    let less = c.loop-row.invariant.less in
    let one = c.one_if_zero-vanished.ensures in
    let l = c.loop-row-test.true in
    omega (arith, less, one, l)

pub loop-row-preserved : goal.loop-row-preserved
loop-row-preserved c =
    let k = c.loop-row.row-index in
    let row = c.loop-row-item.result.0 in
    let w = c.loop-row-item.result.1 in
    let here = slice_get-at_place c.args.change.now k c.loop-row-item.result c.loop-row-test.true c.loop-row-item.is in
    let fits = SFits-slice_get c.args.change.now k row w c.requires.change here in
    let old : SFits w64 c.weight-before.result = search rules in
    let new : SFits w64 c.in-Some.after = search rules in
    let one = c.one_if_zero-added.ensures in
    let zero = c.one_if_zero-vanished.ensures in
    let more = c.loop-row.invariant.more in
    let less = c.loop-row.invariant.less in
    let sum = c.in-Some.ensures.sum.0 ∙ (λ i. to_z-of_z w64 w fits i +ℤ to_z-of_z w64 c.weight-before.result old i) in
    record {
      in_range = range_next c.args.bag.now c.args.change.now k row w c.requires.change here (subst InRange (sum ∙ ap (λ x. w +ℤ x) c.weight-before.ensures.weight) c.in-Some.ensures.sum.1) c.loop-row.invariant.in_range;
      counted = counted_next c.args.bag.now c.args.change.now k row w c.requires.change here c.rows-rows.result c.loop-row.added c.loop-row.vanished c.one_if_zero-added.result c.one_if_zero-vanished.result c.weight-before.result c.in-Some.after
          c.weight-before.ensures.weight sum (ap (λ x. c.one_if_zero-added.result + one_for x) (sym (to_z-of_z w64 c.weight-before.result old)) ∙ one) (ap (λ x. c.one_if_zero-vanished.result + one_for x) (sym (to_z-of_z w64 c.in-Some.after new)) ∙ zero) c.loop-row.invariant.counted;
      more = omega (arith, more, one);
      less = omega (arith, less, zero);
    }

pub returns-clause-keeps : goal.returns-clause-keeps
returns-clause-keeps c = λ h.
    let l : c.rows-rows.result ≤ c.args.cap = (let k = c.rows-rows.ensures.rows in let s = c.requires.small in omega (arith, k, s)) in
    keeps c.args.cap c.args.bag.now c.args.change.now c.loop-row.row-index c.rows-rows.result c.loop-row.added c.loop-row.vanished c.loop-row-test.false l c.loop-row.invariant.in_range c.loop-row.invariant.counted
    (ap (λ n. nat_le n (c.args.cap - c.rows-rows.result)) (sym c.saturating_sub.ensures) ∙ h)

pub returns-clause-breaks : goal.returns-clause-breaks
returns-clause-breaks c = λ h.
    let l : c.rows-rows.result ≤ c.args.cap = (let k = c.rows-rows.ensures.rows in let s = c.requires.small in omega (arith, k, s)) in
    breaks c.args.cap c.args.bag.now c.args.change.now c.loop-row.row-index c.rows-rows.result c.loop-row.added c.loop-row.vanished c.loop-row-test.false l c.loop-row.invariant.in_range c.loop-row.invariant.counted
    (ap (λ n. nat_le n (c.args.cap - c.rows-rows.result)) (sym c.saturating_sub.ensures) ∙ h)
