use Rattle.iv_journal.proofs.Bodies.{drop-body_of, HasNoNewline-body_of}
use Rattle.iv_journal.proofs.laws.lines_have_their_texts.Goals as goal

pub returns : goal.returns
returns c = λ before l. record { text = drop-body_of before l; one = HasNoNewline-body_of before l }
