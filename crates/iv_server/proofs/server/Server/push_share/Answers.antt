use Rattle.iv_server.proofs.MadeShares.{has_share}
use Rattle.iv_server.proofs.server.Server.push_share.Goals as goal

pub returns-clause-share : goal.returns-clause-share
returns-clause-share c =
    has_share (record { end = c.args.end; holder = c.args.holder }) c.args.self.now.shares.items c.push.new.self.items c.in_ok-push.ensures.items
