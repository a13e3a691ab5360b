use Rattle.iv_gate.proofs.EventLaws.{AreTouched-event}
use Rattle.iv_gate.proofs.laws.events_touch_their_clients.Goals as goal

pub returns : goal.returns
returns c = AreTouched-event
