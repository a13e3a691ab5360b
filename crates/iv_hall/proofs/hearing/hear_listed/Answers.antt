use Rattle.iv_hall.specs.Waiting.{bytes_waiting}
use Rattle.iv_hall.proofs.WaitingBytes.{CountsOn-same}
use Rattle.iv_hall.proofs.hearing.hear_listed.Goals as goal

pub returns-clause-counted : goal.returns-clause-counted
returns-clause-counted c =
    CountsOn-same (bytes_waiting c.args.clients.now.items) (bytes_waiting c.hear_said.new.clients.items) _ c.args.waiting _ c.in_ok-said.ensures.counted
    c.in_ok-counted.ensures.counted
