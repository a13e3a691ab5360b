use Rattle.iv_wire.proofs.Sums.{IsTextOf-run}
use Rattle.iv_wire.proofs.laws.answers_are_texts.Goals as goal

pub returns : goal.returns
returns c = IsTextOf-run
