use Rattle.iv_message.proofs.Blanks.{message_of-on_one_line}
use Rattle.iv_message.proofs.laws.newlines_are_blanks.Goals as goal

pub returns : goal.returns
returns c = message_of-on_one_line
