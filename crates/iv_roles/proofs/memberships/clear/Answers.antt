use Rattle.std.proofs.Common.{◌∙◌, arith, length-set}
use Rattle.iv_roles.proofs.Flags.{flag-set_cleared, leads-no_flags}
use Rattle.iv_roles.proofs.memberships.clear.Goals as goal

pub loop-place-preserved : goal.loop-place-preserved
loop-place-preserved c =
    let rows = c.loop-place.rows in
    let n = c.loop-place.place in
    let long = c.loop-place.invariant.1 in
    let below = c.loop-place-test.true in (
      flag-set_cleared rows c.no_flags.result n (omega (arith, long, below)) c.no_flags.ensures c.loop-place.invariant.0,
      length-set rows n c.no_flags.result ∙ long,
    )

pub returns-clause-flags : goal.returns-clause-flags
returns-clause-flags c =
    let long = c.loop-place.invariant.1 in
    let past = c.loop-place-test.false in
    leads-no_flags c.loop-place.rows (λ a b below. c.loop-place.invariant.0 a b (omega (arith, long, past, below)))
