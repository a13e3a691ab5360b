use Rattle.std.proofs.Common.{◌≡◌, ◌≤◌, ◌+◌, ◌*◌, true, false}
use Rattle.iv_machine.specs.State.{State}
use Rattle.iv_engine.specs.Engine.{IsBehind}
use Rattle.iv_lines.specs.Ahead.{known}
use Rattle.iv_lines.specs.Moments.{ReadsAt}
use Rattle.iv_wire.specs.Ran.{HasRun}
use Rattle.iv_wire.specs.Turns.{IsInTurn}
use Rattle.iv_wire.proofs.RunAnswers.{HasTold}
use Rattle.iv_wire.proofs.running.run_lines.Given as goal

abbrev pub invariant-loop : goal.invariant-loop
invariant-loop g l = record {
  told : (s : State) → IsBehind s l.fn.engine → HasTold s (g.R.Source.left l.fn.reader) l.counter (g.W.Sink.taken l.fn.writer) (g.W.Sink.taken l.writer) l.engine (known l.room (g.R.Source.left l.reader));
  ran : (s : State) → IsBehind s l.fn.engine → HasRun l.counter s l.engine;
  went_on : l.fn.engine.failed ≡ false → l.engine.failed ≡ false;
  read : g.R.Source.has_failed l.reader ≡ g.R.Source.has_failed l.fn.reader;
  write : g.W.Sink.has_failed l.writer ≡ g.W.Sink.has_failed l.fn.writer;
  flushed : g.W.Sink.is_flushed l.fn.writer ≡ true → g.W.Sink.is_flushed l.writer ≡ true;
  reads : g.R.Source.reads l.reader ≤ g.R.Source.reads l.fn.reader + l.counter * 65537;
  turns : g.W.Sink.is_flushed l.fn.writer ≡ true → (s : State) → IsBehind s l.fn.engine → ReadsAt (IsInTurn l.lines s (g.R.Source.left l.fn.reader) (g.W.Sink.taken l.fn.writer)) (g.R.Source.moments l.fn.reader) (g.R.Source.moments l.reader);
}
