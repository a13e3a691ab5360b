use Rattle.iv_audit.proofs.TornJournals.{GoOn-HaveTexts}
use Rattle.iv_audit.proofs.laws.journals_go_on_by_lines.Goals as goal

pub returns : goal.returns
returns c = GoOn-HaveTexts c.lines_have_their_texts.ensures
