use Rattle.std.proofs.Common.{rules, ◌≡◌, ◌∙◌, ◌+◌, ◌&&◌, ◌<◌, drop, length, sym, ap, arith, false, true}
use Rattle.iv_rows.specs.contracts.value.ValuePartialEq.TheImpl.{eq-value}
use Rattle.iv_rows.specs.Order.{row_eq}
use Rattle.iv_rows.specs.View.{cells_of}
use Rattle.iv_rows.proofs.Views.{row_eq-other_length, row_eq-drop}
use Rattle.iv_rows.proofs.row.are_equal.Goals as goal

pub returns-then-left-right : goal.returns-then-left-right
returns-then-left-right c = row_eq-other_length c.args.left.now c.args.right.now c.if-left-right.true

pub returns-then-ne : goal.returns-then-ne
returns-then-ne c =
    let equal : eq-value.it c.index-left-place.result c.index-right-place.result ≡ false = search rules in
    let within : c.loop-place.place < length c.args.right.now = omega (arith, c.if-left-right.false, c.loop-place-test.true) in
    sym (c.loop-place.invariant ∙ row_eq-drop c.args.left.now c.args.right.now c.loop-place.place c.index-left-place.result c.index-right-place.result c.index-left-place.is c.index-right-place.is c.loop-place-test.true within
    ∙ ap (λ b. b && row_eq (cells_of (drop (c.loop-place.place + 1) c.args.left.now)) (cells_of (drop (c.loop-place.place + 1) c.args.right.now))) equal)

pub loop-place-preserved : goal.loop-place-preserved
loop-place-preserved c =
    let equal : eq-value.it c.index-left-place.result c.index-right-place.result ≡ true = search rules in
    let within : c.loop-place.place < length c.args.right.now = omega (arith, c.if-left-right.false, c.loop-place-test.true) in
    c.loop-place.invariant ∙ row_eq-drop c.args.left.now c.args.right.now c.loop-place.place c.index-left-place.result c.index-right-place.result c.index-left-place.is c.index-right-place.is c.loop-place-test.true within
    ∙ ap (λ b. b && row_eq (cells_of (drop (c.loop-place.place + 1) c.args.left.now)) (cells_of (drop (c.loop-place.place + 1) c.args.right.now))) equal
