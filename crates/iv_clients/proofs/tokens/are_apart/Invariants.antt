use Rattle.std.proofs.Common.{◌≡◌, drop}
use Rattle.iv_clients.specs.Tokens.{are_apart}
use Rattle.iv_clients.proofs.tokens.are_apart.Given as goal

abbrev pub invariant-loop-at : goal.invariant-loop-at
invariant-loop-at l = are_apart (drop l.at l.tokens) ≡ are_apart l.tokens
