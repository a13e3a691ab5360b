use Rattle.std.proofs.Common.{arith}
use Rattle.std.proofs.lemmas.Grind.{common_steps}
use Rattle.iv_command.specs.Views.{line_of}
use Rattle.iv_hall.specs.Hearing.{hearing_for}
use Rattle.iv_clients.proofs.Slots.{at_client-past, at_client-set}
use Rattle.iv_hall.proofs.WaitingBytes.{CountsOn-set}
use Rattle.iv_hall.proofs.hearing.hear_client.Goals as goal

pub returns-in-None-clause-told : goal.returns-in-None-clause-told
returns-in-None-clause-told c = at_client-past c.args.client _ _ (grind (arith, common_steps))

pub returns-in_ok-hear_slot-in-Some-clause-told : goal.returns-in_ok-hear_slot-in-Some-clause-told
returns-in_ok-hear_slot-in-Some-clause-told c =
    at_client-set c.args.client (hearing_for c.args.feed c.args.rel.now (line_of c.args.line.now)) c.args.clients.now.items c.in-Some.slot.now _
    (grind (arith, common_steps)) c.in-Some.ensures.value c.in_ok-hear_slot-in-Some.ensures.told

pub returns-in_ok-hear_slot-in-Some-clause-counted : goal.returns-in_ok-hear_slot-in-Some-clause-counted
returns-in_ok-hear_slot-in-Some-clause-counted c =
    CountsOn-set c.args.client c.args.clients.now.items c.in-Some.slot.now _ _ _ (grind (arith, common_steps)) c.in-Some.ensures.value
    c.in_ok-hear_slot-in-Some.ensures.counted
