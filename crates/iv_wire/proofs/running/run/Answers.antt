use Rattle.iv_wire.proofs.Ran.{IsSoundEngine-HasRun}
use Rattle.iv_wire.proofs.Sums.{HasWritten-IsAnswered}
use Rattle.iv_wire.proofs.running.run.Goals as goal

pub returns-else-is_failed-2-clause-adds_up : goal.returns-else-is_failed-2-clause-adds_up
returns-else-is_failed-2-clause-adds_up g c = HasWritten-IsAnswered c.args.engine.now _ c.run_lines-ended.result (c.is_failed.ensures.numbers c.if-is_failed.false) c.run_lines-ended.ensures.answered

pub returns-else-is_failed-2-clause-sound : goal.returns-else-is_failed-2-clause-sound
returns-else-is_failed-2-clause-sound g c = λ m h. IsSoundEngine-HasRun c.args.lines c.args.engine.now _ (c.run_lines-ended.ensures.ran m) h

pub returns-else-is_failed-clause-sound : goal.returns-else-is_failed-clause-sound
returns-else-is_failed-clause-sound g c = λ m h. IsSoundEngine-HasRun c.args.lines c.args.engine.now _ (c.run_lines-ended.ensures.ran m) h
