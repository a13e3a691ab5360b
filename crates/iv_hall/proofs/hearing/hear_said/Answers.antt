use Rattle.iv_command.specs.Views.{line_of}
use Rattle.iv_hall.specs.Hearing.{hearing_for}
use Rattle.iv_hall.specs.Waiting.{bytes_waiting}
use Rattle.iv_hall.proofs.WaitingBytes.{CountsOn-trans}
use Rattle.iv_hall.proofs.ClientWalks.{walked-take_next}
use Rattle.iv_hall.proofs.hearing.hear_said.Goals as goal

pub loop-number-preserved : goal.loop-number-preserved
loop-number-preserved c = record {
  saying = c.in_ok-hear_client.ensures.saying;
  slots =
      walked-take_next (hearing_for c.args.feed c.args.rel.now (line_of c.args.line.now)) c.args.numbers.now c.loop-number.number-index c.args.clients.now.items
      c.loop-number.clients.items c.hear_client.new.clients.items
      c.loop-number-test.true c.loop-number.invariant.slots c.in_ok-hear_client.ensures.told;
  counted = CountsOn-trans (bytes_waiting c.args.clients.now.items) (bytes_waiting c.loop-number.clients.items) (bytes_waiting c.hear_client.new.clients.items)
      c.args.said.waiting c.loop-number.said.waiting c.hear_client.new.said.waiting c.loop-number.invariant.counted c.in_ok-hear_client.ensures.counted;
}
