use Rattle.iv_hall.proofs.NumberPlaces.{HasGainedAll-next, HasGainedAll-none}
use Rattle.iv_hall.proofs.numbers.Numbers.insert_all.Goals as goal

pub loop-number-init : goal.loop-number-init
loop-number-init c = HasGainedAll-none c.args.self.now

pub loop-number-preserved : goal.loop-number-preserved
loop-number-preserved c =
    HasGainedAll-next c.args.numbers.now c.loop-number.number-index c.args.self.now c.loop-number.self c.insert.new.self c.loop-number-test.true
    c.loop-number.invariant c.insert.ensures
