use Rattle.std.proofs.Common.{length}
use Rattle.iv_lines.proofs.Known.{Appends-Keeps}
use Rattle.iv_wire.proofs.running.send_answer.Goals as goal

pub returns-in-Err-flush-clause-front : goal.returns-in-Err-flush-clause-front
returns-in-Err-flush-clause-front g c = (length c.args.text.now, Appends-Keeps _ (g.W.Sink.taken c.write_all.new.writer) _ c.args.text.now c.in-Ok.ensures.ok c.in-Err-flush.ensures.bytes)
