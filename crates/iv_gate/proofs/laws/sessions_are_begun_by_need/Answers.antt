use Rattle.iv_gate.proofs.SessionsAfterEvents.{AreSeatsAfter-next}
use Rattle.iv_gate.proofs.laws.sessions_are_begun_by_need.Goals as goal

pub returns : goal.returns
returns c = AreSeatsAfter-next
