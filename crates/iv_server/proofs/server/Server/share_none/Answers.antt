use Rattle.iv_server.specs.Sharing.{waiting_lines}
use Rattle.iv_server.proofs.MadeShares.{HasShare-same, same_length}
use Rattle.iv_server.proofs.server.Server.share_none.Goals as goal

pub returns-in-Ok-clause-share : goal.returns-in-Ok-clause-share
returns-in-Ok-clause-share c = λ d s a.
    HasShare-same _ (waiting_lines d) _ _ _ _ (same_length c.entered-end.result.now _ (c.entered-end.ensures.lines d s a)) c.new-holder.ensures.bytes
    c.in-Ok.ensures.share
