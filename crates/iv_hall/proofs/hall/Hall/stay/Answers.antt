use Rattle.iv_command.specs.Views.{line_of}
use Rattle.iv_hall.proofs.FeedEnds.{at_all-keeping_on_none, at_all-keeping_on_next}
use Rattle.iv_hall.proofs.hall.Hall.stay.Goals as goal

pub loop-line-init : goal.loop-line-init
loop-line-init c = at_all-keeping_on_none c.args.self.now

pub loop-line-preserved : goal.loop-line-preserved
loop-line-preserved c =
    at_all-keeping_on_next line_of c.args.lines.now c.loop-line.line-index c.line-item.result c.args.self.now c.loop-line.self c.stay_behind.new.self
    c.loop-line-test.true c.line-item.is c.loop-line.invariant c.stay_behind.ensures
