use Rattle.std.proofs.Common.{◌≡◌}
use Rattle.iv_peer.specs.Hearing.{IsServer}
use Rattle.iv_admission.specs.Scouting.{PassesBy}
use Rattle.iv_admission.proofs.scout.Scout.find.Given as goal

abbrev pub invariant-loop : goal.invariant-loop
invariant-loop l = (IsServer l.initial.self.peer → PassesBy l.initial.self.peer l.self.peer) × (l.self.taken ≡ l.initial.self.taken)
