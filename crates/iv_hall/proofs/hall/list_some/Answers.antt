use Rattle.std.proofs.Common.{[]}
use Rattle.std.specs.List.{Contains}
use Rattle.iv_hall.specs.Hall.{is_told_at}
use Rattle.iv_hall.proofs.FeedReaders.{not_Contains-none}
use Rattle.iv_hall.proofs.NumberPlaces.{AreSet-next, AreSet-none}
use Rattle.iv_hall.proofs.hall.list_some.Goals as goal

pub loop-number-init : goal.loop-number-init
loop-number-init c = AreSet-none (Contains []) (is_told_at c.args.clients.now) c.args.told.now not_Contains-none

pub loop-number-preserved : goal.loop-number-preserved
loop-number-preserved c = AreSet-next c.args.numbers.now c.loop-number.number-index (is_told_at c.args.clients.now) c.args.told.now c.loop-number.told
    c.list_one.new.told c.loop-number-test.true c.loop-number.invariant c.list_one.ensures
