use Rattle.std.proofs.Common.{◌∙◌}
use Rattle.iv_lines.proofs.Known.{Appends-take_more, le-take_of_drop, or_false}
use Rattle.iv_lines.proofs.ends.write_all.Goals as goal

pub loop-at-preserved : goal.loop-at-preserved
loop-at-preserved g c = record {
  within = le-take_of_drop c.loop-at.at c.in_ok-at.field-0 c.args.bytes.now c.loop-at.invariant.within c.in_ok-at.ensures.bound;
  taken = Appends-take_more _ (g.W.Sink.taken c.loop-at.writer) _ c.loop-at.at c.in_ok-at.field-0 c.args.bytes.now c.loop-at.invariant.within c.loop-at.invariant.taken c.in_ok-at.ensures.bytes;
  failed = c.in_ok-at.ensures.failed ∙ (or_false (g.W.Sink.has_failed c.loop-at.writer) ∙ c.loop-at.invariant.failed);
}
