use Rattle.std.proofs.Common.{take}
use Rattle.iv_desk.specs.Front.{offered}
use Rattle.iv_desk.specs.Desks.{at_each}
use Rattle.iv_desk.proofs.StatesAfterStep.{IsBehind-at_each, IsBehind-at_each_next}
use Rattle.iv_desk.proofs.places.offer_each.Goals as goal

pub loop-at-init : goal.loop-at-init
loop-at-init c = λ d b. b

pub loop-at-preserved : goal.loop-at-preserved
loop-at-preserved c = λ d b.
    IsBehind-at_each_next offered c.args.numbers.now c.loop-at.at-index d _ _ c.loop-at-test.true
    (c.in_ok-offer_at.ensures (at_each offered (take c.loop-at.at-index c.args.numbers.now) d) (c.loop-at.invariant d b))

pub returns : goal.returns
returns c = λ d b. IsBehind-at_each offered c.args.numbers.now c.loop-at.at-index d _ _ c.loop-at-test.false (c.loop-at.invariant d b)
