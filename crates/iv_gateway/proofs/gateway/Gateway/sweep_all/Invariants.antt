use Rattle.std.proofs.Common.{drop}
use Rattle.iv_gate.specs.Gate.{Gate}
use Rattle.iv_gateway.specs.Views.{IsAlive}
use Rattle.iv_gateway.proofs.UnfollowedFeeds.{IsSweeping}
use Rattle.iv_gateway.proofs.gateway.Gateway.sweep_all.Given as goal

abbrev pub invariant-loop-number : goal.invariant-loop-number
invariant-loop-number l = (g : Gate) → IsAlive g l.fn.self → IsSweeping g l.numbers (drop l.number-index l.numbers) l.self
