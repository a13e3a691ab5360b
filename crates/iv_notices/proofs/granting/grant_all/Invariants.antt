use Rattle.std.proofs.Common.{◌≡◌}
use Rattle.iv_notices.specs.Granting.{holding_for, is_granted}
use Rattle.iv_notices.proofs.GrantTexts.{first_all}
use Rattle.iv_notices.proofs.granting.grant_all.Given as goal

abbrev pub invariant-loop-client : goal.invariant-loop-client
invariant-loop-client l = l.clients ≡ first_all (holding_for (is_granted l.engine.frame l.grants) l.text) l.client l.fn.clients
