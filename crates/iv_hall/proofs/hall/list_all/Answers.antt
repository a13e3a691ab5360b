use Rattle.std.proofs.Common.{◌<◌, arith}
use Rattle.iv_hall.specs.Hall.{is_told_at}
use Rattle.iv_hall.proofs.NumberPlaces.{AreSet-below, AreSet-none}
use Rattle.iv_hall.proofs.hall.list_all.Goals as goal

pub loop-number-init : goal.loop-number-init
loop-number-init c = AreSet-none (λ m. m < 0) (is_told_at c.args.clients.now) c.args.told.now (λ m l. omega (arith, l))

pub loop-number-preserved : goal.loop-number-preserved
loop-number-preserved c = AreSet-below c.loop-number.number (is_told_at c.args.clients.now) c.args.told.now c.loop-number.told c.list_one.new.told
    c.loop-number.invariant c.list_one.ensures
