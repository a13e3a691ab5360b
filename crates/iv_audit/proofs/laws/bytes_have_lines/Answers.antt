use Rattle.iv_audit.proofs.Bytes.{BytesHaveLines-HaveTexts}
use Rattle.iv_audit.proofs.laws.bytes_have_lines.Goals as goal

pub returns : goal.returns
returns c = BytesHaveLines-HaveTexts c.lines_have_their_texts.ensures
