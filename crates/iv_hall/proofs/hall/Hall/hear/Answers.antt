use Rattle.iv_command.specs.Views.{line_of}
use Rattle.iv_hall.proofs.TextsOfLines.{at_all-hearing_lines_next, at_all-hearing_lines_none}
use Rattle.iv_hall.proofs.hall.Hall.hear.Goals as goal

pub loop-line-init : goal.loop-line-init
loop-line-init c = at_all-hearing_lines_none c.args.feeds.now c.args.self.now

pub loop-line-preserved : goal.loop-line-preserved
loop-line-preserved c =
    at_all-hearing_lines_next line_of c.args.feeds.now c.args.lines.now c.loop-line.line-index c.line-item.result c.args.self.now c.loop-line.self
    c.hear_line.new.self c.loop-line-test.true c.line-item.is c.loop-line.invariant c.in_ok-hear_line.ensures
