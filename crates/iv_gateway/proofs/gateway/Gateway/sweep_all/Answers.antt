use Rattle.std.proofs.Common.{refl}
use Rattle.std.proofs.lemmas.List.{drop_all}
use Rattle.iv_gateway.proofs.UnfollowedFeeds.{IsAlive-all_swept, IsSweeping-next}
use Rattle.iv_gateway.proofs.gateway.Gateway.sweep_all.Goals as goal

pub loop-number-init : goal.loop-number-init
loop-number-init c = λ g b. record { now = g; gate = b; leads = refl }

pub loop-number-preserved : goal.loop-number-preserved
loop-number-preserved c = λ g b. IsSweeping-next g c.args.numbers.now c.loop-number.number-index _ _ c.loop-number-test.true (c.loop-number.invariant g b)
    c.in_ok-sweep.ensures

pub returns : goal.returns
returns c =
    λ g b. IsAlive-all_swept g c.args.numbers.now c.loop-number.number-index _ (drop_all c.loop-number.number-index c.args.numbers.now c.loop-number-test.false)
    (c.loop-number.invariant g b)
