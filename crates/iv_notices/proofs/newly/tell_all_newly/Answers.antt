use Rattle.std.proofs.Common.{◌∙◌, arith}
use Rattle.iv_notices.specs.Newly.{hearing_newly}
use Rattle.iv_notices.proofs.GrantTexts.{first_all-next, first_all-whole}
use Rattle.iv_notices.proofs.newly.tell_all_newly.Goals as goal

pub loop-client-preserved : goal.loop-client-preserved
loop-client-preserved c =
    first_all-next (hearing_newly c.args.all.now) c.loop-client.client c.args.clients.now c.loop-client.clients c.tell_newly.new.clients c.loop-client.invariant
    c.in_ok-tell_newly.ensures

pub returns : goal.returns
returns c = c.loop-client.invariant ∙ first_all-whole (hearing_newly c.args.all.now) c.loop-client.client c.args.clients.now (omega arith)
