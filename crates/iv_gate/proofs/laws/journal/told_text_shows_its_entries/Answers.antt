use Rattle.iv_gate.proofs.EventLaws.{AreShown-event}
use Rattle.iv_gate.proofs.laws.journal.told_text_shows_its_entries.Goals as goal

pub returns : goal.returns
returns c = AreShown-event
