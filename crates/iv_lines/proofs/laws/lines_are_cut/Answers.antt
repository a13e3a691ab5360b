use Rattle.iv_lines.proofs.JoinedLines.{cut-whole_line, cut-last_line, cut-endless}
use Rattle.iv_lines.proofs.laws.lines_are_cut.Goals as goal

pub returns-clause-line : goal.returns-clause-line
returns-clause-line c = cut-whole_line

pub returns-clause-last : goal.returns-clause-last
returns-clause-last c = cut-last_line

pub returns-clause-too_long : goal.returns-clause-too_long
returns-clause-too_long c = cut-endless
