use Rattle.std.proofs.Common.{◌∙◌, ◌||◌, false, get_or, length-set, arith}
use Rattle.iv_roles.proofs.Flags.{JoinedTo-start, JoinedTo-step, get_or-joined}
use Rattle.iv_roles.proofs.memberships.join.Goals as goal

pub loop-place-init : goal.loop-place-init
loop-place-init c = (JoinedTo-start c.args.row.now c.args.other.now, c.told-row)

pub loop-place-preserved : goal.loop-place-preserved
loop-place-preserved c =
    let row = c.loop-place.row in
    let n = c.loop-place.place in
    let long = c.loop-place.invariant.1 in
    let below = c.loop-place-test.true in (
      JoinedTo-step c.args.row.now c.args.other.now row n (omega (arith, long, below)) c.loop-place.invariant.0,
      length-set row n (get_or row n false || get_or c.args.other.now n false) ∙ long,
    )

pub returns : goal.returns
returns c =
    let wide = c.requires in
    let long = c.loop-place.invariant.1 in
    let other = c.told-other in
    let past = c.loop-place-test.false in
    get_or-joined c.loop-place.place c.args.role c.args.row.now c.args.other.now c.loop-place.row (omega (arith, other, past)) (omega (arith, wide, long)) c.loop-place.invariant.0
