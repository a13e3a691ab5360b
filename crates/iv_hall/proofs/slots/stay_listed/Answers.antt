use Rattle.std.proofs.Common.{map}
use Rattle.iv_command.specs.Views.{line_of}
use Rattle.iv_clients.specs.Kept.{keeping_on}
use Rattle.iv_hall.proofs.ClientWalks.{walked-take_next}
use Rattle.iv_hall.proofs.slots.stay_listed.Goals as goal

pub loop-number-preserved : goal.loop-number-preserved
loop-number-preserved c =
    walked-take_next (keeping_on (map line_of c.args.lines.now)) c.args.numbers.now c.loop-number.number-index c.args.clients.now.items
    c.loop-number.clients.items
    c.stay_at.new.clients.items c.loop-number-test.true
    c.loop-number.invariant c.stay_at.ensures
