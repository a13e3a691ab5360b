use Rattle.iv_clients.specs.Kept.{holding_owed}
use Rattle.iv_hall.proofs.ClientWalks.{walked-take_next}
use Rattle.iv_hall.proofs.slots.settle_listed.Goals as goal

pub loop-number-preserved : goal.loop-number-preserved
loop-number-preserved c =
    walked-take_next (holding_owed c.args.text.now) c.args.numbers.now c.loop-number.number-index c.args.clients.now.items c.loop-number.clients.items
    c.settle_at.new.clients.items c.loop-number-test.true
    c.loop-number.invariant c.in_ok-settle_at.ensures
