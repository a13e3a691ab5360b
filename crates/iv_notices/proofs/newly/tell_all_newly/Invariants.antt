use Rattle.std.proofs.Common.{◌≡◌}
use Rattle.iv_notices.specs.Newly.{hearing_newly}
use Rattle.iv_notices.proofs.GrantTexts.{first_all}
use Rattle.iv_notices.proofs.newly.tell_all_newly.Given as goal

abbrev pub invariant-loop-client : goal.invariant-loop-client
invariant-loop-client l = l.clients ≡ first_all (hearing_newly l.all) l.client l.fn.clients
