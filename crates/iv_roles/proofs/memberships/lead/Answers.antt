use Rattle.std.proofs.Common.{◌∙◌, get_or, length-set, arith, []}
use Rattle.iv_roles.proofs.Flags.{LedTo-step}
use Rattle.iv_roles.proofs.memberships.lead.Goals as goal

pub loop-place-preserved : goal.loop-place-preserved
loop-place-preserved c =
    let rows = c.loop-place.rows in
    let n = c.loop-place.place in
    let long = c.loop-place.invariant.1 in
    let below = c.loop-place-test.true in (
      LedTo-step c.args.role c.args.member (get_or c.args.rows.now c.args.role []) c.args.rows.now rows n c.pass_on.new.row (omega (arith, long, below)) c.pass_on.ensures c.loop-place.invariant.0,
      length-set rows n c.pass_on.new.row ∙ long,
    )
