use Rattle.std.proofs.Common.{refl}
use Rattle.std.proofs.lemmas.List.{drop_all}
use Rattle.iv_gateway.proofs.RoleSessions.{IsAlive-all_rested, IsResting-next}
use Rattle.iv_gateway.proofs.gateway.Gateway.rest_all.Goals as goal

pub loop-seat-init : goal.loop-seat-init
loop-seat-init c = λ g b. record { now = g; gate = b; leads = refl }

pub loop-seat-preserved : goal.loop-seat-preserved
loop-seat-preserved c = λ g b. IsResting-next g c.args.seats.now c.loop-seat.seat-index c.seat-item.result _ _ c.loop-seat-test.true c.seat-item.is
    (c.loop-seat.invariant g b) c.in_ok-rest.ensures

pub returns : goal.returns
returns c = λ g b. IsAlive-all_rested g c.args.seats.now c.loop-seat.seat-index _ (drop_all c.loop-seat.seat-index c.args.seats.now c.loop-seat-test.false)
    (c.loop-seat.invariant g b)
