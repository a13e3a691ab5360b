use Rattle.std.proofs.Common.{sym, ◌∙◌}
use Rattle.iv_program.proofs.Connections.{AreNumbersUnique-IsClosed, HasServed-plus}
use Rattle.iv_program.proofs.serving.serve_on.Goals as goal

pub loop-preserved : goal.loop-preserved
loop-preserved c =
    let one = c.answer_connection.ensures in
    let works = sym c.is_failed-in-loop.ensures.failed ∙ c.if-is_failed-2.false in
    let kept = sym one.failed ∙ works in record {
      served = λ s b. HasServed-plus c.args.lines c.loop.counter 1 s c.loop.engine _ (c.loop.invariant.served s b) (one.served kept);
      sound = λ h. one.sound kept (c.loop.invariant.sound h);
      closed = λ _. one.closed kept;
      numbers = AreNumbersUnique-IsClosed _ (one.closed kept);
      failed = works;
    }
