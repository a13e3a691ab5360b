use Rattle.std.proofs.Common.{◌<◌, ap, length, subst, sym, take}
use Rattle.std.specs.Prelude.{flat_map}
use Rattle.iv_command.specs.Views.{line_of}
use Rattle.iv_hall.specs.Hearing.{told_for}
use Rattle.iv_hall.proofs.TextsOfLines.{subs-holding_all, holding_all-take_next}
use Rattle.iv_hall.proofs.WaitingBytes.{CountsOn-trans}
use Rattle.iv_hall.proofs.hearing.hear.Goals as goal

pub hear_at-requires-clause-place : goal.hear_at-requires-clause-place
hear_at-requires-clause-place c =
    subst (λ n. c.loop-at.at < n) (sym (ap length (subs-holding_all (flat_map (told_for c.args.feed c.args.rel.now (line_of c.args.line.now))
    (take c.loop-at.at c.args.client.now.subs)) c.args.client.now c.loop-at.client c.loop-at.invariant.told)))
    (subst (λ n. c.loop-at.at < n) (ap length c.subs-at-end.ensures) c.loop-at-test.true)

pub loop-at-preserved : goal.loop-at-preserved
loop-at-preserved c = record {
  told =
      holding_all-take_next (told_for c.args.feed c.args.rel.now (line_of c.args.line.now)) c.loop-at.at c.args.client.now c.loop-at.client c.hear_at.new.client
      (subst (λ n. c.loop-at.at < n) (ap length c.subs-at-end.ensures) c.loop-at-test.true) c.loop-at.invariant.told c.in_ok-hear_at.ensures.told;
  saying = c.in_ok-hear_at.ensures.saying;
  counted = CountsOn-trans (length c.args.client.now.unsynced) (length c.loop-at.client.unsynced) (length c.hear_at.new.client.unsynced) c.args.said.now.waiting
      c.loop-at.said.waiting c.hear_at.new.said.waiting c.loop-at.invariant.counted c.in_ok-hear_at.ensures.counted;
}
