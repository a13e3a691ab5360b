use Rattle.iv_gate.proofs.UndecidedNames.{StaysPast-event}
use Rattle.iv_gate.proofs.laws.names.what_is_past_stays_past.Goals as goal

pub returns : goal.returns
returns c = StaysPast-event
