use Rattle.std.proofs.Common.{Some, refl}
use Rattle.iv_hall.proofs.WaitingBytes.{CountsOn-bytes_of}
use Rattle.iv_hall.proofs.hearing.hear_slot.Goals as goal

pub returns-in_ok-hear-in-Some-clause-counted : goal.returns-in_ok-hear-in-Some-clause-counted
returns-in_ok-hear-in-Some-clause-counted c =
    CountsOn-bytes_of c.args.slot.now (Some c.hear.new.client) c.in-Some.client c.hear.new.client c.args.said.now.waiting c.hear.new.said.waiting c.in-Some.is
    refl
    c.in_ok-hear-in-Some.ensures.counted
