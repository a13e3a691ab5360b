use Rattle.iv_message.proofs.Lines.{IsLine-told_text}
use Rattle.iv_message.proofs.laws.told_texts_are_lines.Goals as goal

pub returns : goal.returns
returns c = IsLine-told_text
