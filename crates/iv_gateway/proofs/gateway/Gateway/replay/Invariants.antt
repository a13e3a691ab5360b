use Rattle.std.proofs.Common.{◌-◌, ◌≤◌, length}
use Rattle.iv_gate.specs.Gate.{Gate}
use Rattle.iv_gateway.specs.Replays.{IsNew}
use Rattle.iv_gateway.specs.Views.{IsAlive}
use Rattle.iv_gateway.proofs.JournalReplays.{HasRead}
use Rattle.iv_gateway.proofs.gateway.Gateway.replay.Given as goal

abbrev pub invariant-lines : goal.invariant-lines
invariant-lines l = record {
  within : l.at ≤ length l.journal;
  leads : (g : Gate) → IsNew g → IsAlive g l.fn.self → HasRead g l.journal l.at l.self;
}

abbrev pub decreases-lines : goal.decreases-lines
decreases-lines l = length l.journal - l.at
