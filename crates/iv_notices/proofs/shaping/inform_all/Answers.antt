use Rattle.std.proofs.Common.{◌∙◌, arith}
use Rattle.iv_notices.specs.Granting.{holding_for}
use Rattle.iv_notices.specs.Shaping.{is_admin}
use Rattle.iv_notices.proofs.GrantTexts.{first_all-next, first_all-whole}
use Rattle.iv_notices.proofs.shaping.inform_all.Goals as goal

pub loop-client-preserved : goal.loop-client-preserved
loop-client-preserved c =
    first_all-next (holding_for is_admin c.args.text.now) c.loop-client.client c.args.clients.now c.loop-client.clients c.inform.new.clients
    c.loop-client.invariant
    c.in_ok-inform.ensures

pub returns : goal.returns
returns c = c.loop-client.invariant ∙ first_all-whole (holding_for is_admin c.args.text.now) c.loop-client.client c.args.clients.now (omega arith)
