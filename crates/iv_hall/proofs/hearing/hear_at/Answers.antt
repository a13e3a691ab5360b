use Rattle.std.proofs.Common.{length}
use Rattle.iv_hall.proofs.WaitingBytes.{CountsOn-same}
use Rattle.iv_hall.proofs.hearing.hear_at.Goals as goal

pub returns-clause-counted : goal.returns-clause-counted
returns-clause-counted c =
    CountsOn-same (length c.args.client.now.unsynced)
    (length c.tell.new.client.unsynced) c.turn.new.self.waiting c.args.said.now.waiting c.tell.new.self.waiting
    c.in_ok-turn.ensures.counted
    c.in_ok-tell.ensures.counted
