use Rattle.std.proofs.Common.{◌+◌, ◌∙◌, ap, arith, rules, inl, inr, Err}
use Rattle.std.proofs.Math.Bool.{or-false}
use Rattle.std.proofs.lemmas.Result.{err_from_is_err_and}
use Rattle.iv_lines.specs.Ahead.{known}
use Rattle.iv_wire.proofs.Ran.{HasRun-none, HasRun-next, HasRun-le}
use Rattle.iv_wire.proofs.RunAnswers.{HasTold-start, HasTold-next, Tells-told, IsAnswered-Input, IsAnswered-TooLong, IsAnswered-Lines, IsAnswered-Read, IsAnswered-Memory, IsAnswered-Write, IsAnswered-Write_endless}
use Rattle.iv_lines.proofs.Moments.{ReadsAt-none}
use Rattle.iv_wire.proofs.Turns.{ReadsAt-HasTold}
use Rattle.iv_wire.proofs.running.run_lines.Goals as goal

pub loop-init : goal.loop-init
loop-init g c = record {
  told = λ s b. HasTold-start s c.args.engine.now (g.R.Source.left c.args.reader.now) (g.W.Sink.taken c.args.writer.now) _ b c.new-room.ensures;
  ran = λ s b. HasRun-none s _ b;
  went_on = search rules;
  read = search rules;
  write = search rules;
  flushed = search rules;
  reads = omega arith;
  turns = λ _ s b. ReadsAt-none _ _;
}

pub returns-in-Nothing-clause-answered : goal.returns-in-Nothing-clause-answered
returns-in-Nothing-clause-answered g c =
    let k = rw c.in-Nothing.is at c.in_ok-next_line.ensures.cut in
    λ s b. IsAnswered-Input s c.loop.engine _ _ (known c.loop.room (g.R.Source.left c.loop.reader)) _ _ _ c.args.lines c.loop.counter c.loop-test.true (c.loop.invariant.told s b) k

pub returns-in_err-text-in-Endless-clause-answered : goal.returns-in_err-text-in-Endless-clause-answered
returns-in_err-text-in-Endless-clause-answered g c =
    let p = err_from_is_err_and c.from_residual-in_err-text-in-Endless.result c.from_residual-in_err-text-in-Endless.ensures.1 in
    rw (p.1, p.2) (λ s b. IsAnswered-Memory s c.loop.engine c.loop.engine _ (known c.loop.room (g.R.Source.left c.loop.reader)) _ _ _ c.args.lines c.loop.counter c.loop-test.true (c.loop.invariant.told s b))

pub returns-in_err-send_answer-in-Endless-clause-answered : goal.returns-in_err-send_answer-in-Endless-clause-answered
returns-in_err-send_answer-in-Endless-clause-answered g c =
    let k = rw c.in-Endless.is at c.in_ok-next_line.ensures.cut in
    let p = err_from_is_err_and c.from_residual-in_err-send_answer-in-Endless.result c.from_residual-in_err-send_answer-in-Endless.ensures.1 in
    rw (p.1, p.2, c.in_err-send_answer-in-Endless.ensures.fault) (λ s b. IsAnswered-Write_endless s c.loop.engine _ _ (known c.loop.room (g.R.Source.left c.loop.reader)) _ _ (g.W.Sink.taken c.loop.writer) _ c.args.lines c.loop.counter _ c.loop-test.true (c.loop.invariant.told s b) k (c.deref.ensures.value ∙ c.in_ok-text-in-Endless.ensures) c.in_err-send_answer-in-Endless.ensures.front)

pub returns-in-Endless-clause-answered : goal.returns-in-Endless-clause-answered
returns-in-Endless-clause-answered g c =
    let k = rw c.in-Endless.is at c.in_ok-next_line.ensures.cut in
    λ s b. IsAnswered-TooLong s c.loop.engine _ _ (known c.loop.room (g.R.Source.left c.loop.reader)) _ _ (g.W.Sink.taken c.loop.writer) _ c.args.lines c.loop.counter _ c.loop-test.true (c.loop.invariant.told s b) k (c.deref.ensures.value ∙ c.in_ok-text-in-Endless.ensures) c.in_ok-send_answer-in-Endless.ensures.ok

pub returns-in_err-text-in-Line-clause-answered : goal.returns-in_err-text-in-Line-clause-answered
returns-in_err-text-in-Line-clause-answered g c =
    let p = err_from_is_err_and c.from_residual-in_err-text-in-Line.result c.from_residual-in_err-text-in-Line.ensures.1 in
    rw (p.1, p.2) (λ s b. IsAnswered-Memory s c.loop.engine c.answer_line.new.engine _ (known c.loop.room (g.R.Source.left c.loop.reader)) _ _ _ c.args.lines c.loop.counter c.loop-test.true (c.loop.invariant.told s b))

pub returns-in_err-send_answer-in-Line-clause-answered : goal.returns-in_err-send_answer-in-Line-clause-answered
returns-in_err-send_answer-in-Line-clause-answered g c =
    let k = rw c.in-Line.is at c.in_ok-next_line.ensures.cut in
    let p = err_from_is_err_and c.from_residual-in_err-send_answer-in-Line.result c.from_residual-in_err-send_answer-in-Line.ensures.1 in
    rw (p.1, p.2, c.in_err-send_answer-in-Line.ensures.fault) (λ s b. IsAnswered-Write s c.loop.engine c.answer_line.new.engine _ _ (known c.loop.room (g.R.Source.left c.loop.reader)) _ _ (g.W.Sink.taken c.loop.writer) _ c.args.lines c.loop.counter c.in-Line.line _ c.loop-test.true (c.loop.invariant.told s b) k (Tells-told c.loop.engine c.answer_line.new.engine c.in-Line.line.items _ _ _ c.deref-in-Line.ensures.value c.deref-in-Line-2.ensures.value c.in_ok-text-in-Line.ensures.text c.in_ok-text-in-Line.ensures.state) c.in_err-send_answer-in-Line.ensures.front)

pub loop-preserved : goal.loop-preserved
loop-preserved g c =
    let k = rw c.in-Line.is at c.in_ok-next_line.ensures.cut in
    record {
      told = λ s b. HasTold-next s c.loop.engine c.answer_line.new.engine _ (known c.loop.room (g.R.Source.left c.loop.reader)) _ _ (g.W.Sink.taken c.loop.writer) _ c.loop.counter c.in-Line.line _ (c.loop.invariant.told s b) k (Tells-told c.loop.engine c.answer_line.new.engine c.in-Line.line.items _ _ _ c.deref-in-Line.ensures.value c.deref-in-Line-2.ensures.value c.in_ok-text-in-Line.ensures.text c.in_ok-text-in-Line.ensures.state) c.in_ok-send_answer-in-Line.ensures.ok;
      ran = λ s b. HasRun-next c.loop.counter c.deref-in-Line.result.now s c.loop.engine c.answer_line.new.engine (c.loop.invariant.ran s b) c.in_ok-text-in-Line.ensures.given c.in_ok-text-in-Line.ensures.state;
      went_on = λ h. c.in_ok-text-in-Line.ensures.failed (c.loop.invariant.went_on h);
      read = c.in_ok-next_line.ensures.failed ∙ (or-false (g.R.Source.has_failed c.loop.reader) ∙ c.loop.invariant.read);
      write = c.in_ok-send_answer-in-Line.ensures.failed ∙ (or-false (g.W.Sink.has_failed c.loop.writer) ∙ c.loop.invariant.write);
      flushed = λ _. c.in_ok-send_answer-in-Line.ensures.flushed;
      reads = omega (arith, c.in_ok-next_line.ensures.reads);
      turns = λ f s b. ReadsAt-HasTold c.args.lines c.loop.counter s _ (known c.loop.room (g.R.Source.left c.loop.reader)) _ _ c.loop.engine _ _ _ _ c.loop-test.true (c.loop.invariant.told s b) (c.loop.invariant.flushed f) (c.loop.invariant.turns f s b) c.in_ok-next_line.ensures.moments;
    }

pub returns-clause-answered : goal.returns-clause-answered
returns-clause-answered g c = λ s b. IsAnswered-Lines s c.loop.engine _ _ (known c.loop.room (g.R.Source.left c.loop.reader)) _ _ c.args.lines c.loop.counter (omega arith) (c.loop.invariant.told s b)

pub returns-in_err-next_line-clause-answered : goal.returns-in_err-next_line-clause-answered
returns-in_err-next_line-clause-answered g c =
    let p = err_from_is_err_and c.from_residual.result c.from_residual.ensures.1 in
    elim c.in_err-next_line.ensures.fault [
      | inl f ↦ rw (p.1, p.2, f) (λ s b. IsAnswered-Read s c.loop.engine _ (known c.loop.room (g.R.Source.left c.loop.reader)) _ _ _ c.args.lines c.loop.counter c.loop-test.true (c.loop.invariant.told s b) (c.in_err-next_line.ensures.short (ap Err f)))
      | inr f ↦ rw (p.1, p.2, f) (λ s b. IsAnswered-Memory s c.loop.engine c.loop.engine _ (known c.loop.room (g.R.Source.left c.loop.reader)) _ _ _ c.args.lines c.loop.counter c.loop-test.true (c.loop.invariant.told s b))
    ]

pub returns-in_err-next_line-clause-ran : goal.returns-in_err-next_line-clause-ran
returns-in_err-next_line-clause-ran g c = λ _ s b. HasRun-le c.loop.counter c.args.lines s _ (omega arith) (c.loop.invariant.ran s b)

pub returns-in-Nothing-clause-ran : goal.returns-in-Nothing-clause-ran
returns-in-Nothing-clause-ran g c = λ _ s b. HasRun-le c.loop.counter c.args.lines s _ (omega arith) (c.loop.invariant.ran s b)

pub returns-in_err-send_answer-in-Endless-clause-ran : goal.returns-in_err-send_answer-in-Endless-clause-ran
returns-in_err-send_answer-in-Endless-clause-ran g c = λ _ s b. HasRun-le c.loop.counter c.args.lines s _ (omega arith) (c.loop.invariant.ran s b)

pub returns-in-Endless-clause-ran : goal.returns-in-Endless-clause-ran
returns-in-Endless-clause-ran g c = λ _ s b. HasRun-le c.loop.counter c.args.lines s _ (omega arith) (c.loop.invariant.ran s b)

pub returns-in_err-send_answer-in-Line-clause-ran : goal.returns-in_err-send_answer-in-Line-clause-ran
returns-in_err-send_answer-in-Line-clause-ran g c = λ _ s b. HasRun-le (c.loop.counter + 1) c.args.lines s _ (omega arith)
    (HasRun-next c.loop.counter c.deref-in-Line.result.now s c.loop.engine c.answer_line.new.engine (c.loop.invariant.ran s b) c.in_ok-text-in-Line.ensures.given c.in_ok-text-in-Line.ensures.state)

pub returns-in-Nothing-clause-turns : goal.returns-in-Nothing-clause-turns
returns-in-Nothing-clause-turns g c = λ f s b. ReadsAt-HasTold c.args.lines c.loop.counter s _ (known c.loop.room (g.R.Source.left c.loop.reader)) _ _ c.loop.engine _ _ _ _ c.loop-test.true (c.loop.invariant.told s b) (c.loop.invariant.flushed f) (c.loop.invariant.turns f s b) c.in_ok-next_line.ensures.moments

pub returns-in_err-text-in-Endless-clause-turns : goal.returns-in_err-text-in-Endless-clause-turns
returns-in_err-text-in-Endless-clause-turns g c = λ f s b. ReadsAt-HasTold c.args.lines c.loop.counter s _ (known c.loop.room (g.R.Source.left c.loop.reader)) _ _ c.loop.engine _ _ _ _ c.loop-test.true (c.loop.invariant.told s b) (c.loop.invariant.flushed f) (c.loop.invariant.turns f s b) c.in_ok-next_line.ensures.moments

pub returns-in_err-send_answer-in-Endless-clause-turns : goal.returns-in_err-send_answer-in-Endless-clause-turns
returns-in_err-send_answer-in-Endless-clause-turns g c = λ f s b. ReadsAt-HasTold c.args.lines c.loop.counter s _ (known c.loop.room (g.R.Source.left c.loop.reader)) _ _ c.loop.engine _ _ _ _ c.loop-test.true (c.loop.invariant.told s b) (c.loop.invariant.flushed f) (c.loop.invariant.turns f s b) c.in_ok-next_line.ensures.moments

pub returns-in-Endless-clause-turns : goal.returns-in-Endless-clause-turns
returns-in-Endless-clause-turns g c = λ f s b. ReadsAt-HasTold c.args.lines c.loop.counter s _ (known c.loop.room (g.R.Source.left c.loop.reader)) _ _ c.loop.engine _ _ _ _ c.loop-test.true (c.loop.invariant.told s b) (c.loop.invariant.flushed f) (c.loop.invariant.turns f s b) c.in_ok-next_line.ensures.moments

pub returns-in_err-text-in-Line-clause-turns : goal.returns-in_err-text-in-Line-clause-turns
returns-in_err-text-in-Line-clause-turns g c = λ f s b. ReadsAt-HasTold c.args.lines c.loop.counter s _ (known c.loop.room (g.R.Source.left c.loop.reader)) _ _ c.loop.engine _ _ _ _ c.loop-test.true (c.loop.invariant.told s b) (c.loop.invariant.flushed f) (c.loop.invariant.turns f s b) c.in_ok-next_line.ensures.moments

pub returns-in_err-send_answer-in-Line-clause-turns : goal.returns-in_err-send_answer-in-Line-clause-turns
returns-in_err-send_answer-in-Line-clause-turns g c = λ f s b. ReadsAt-HasTold c.args.lines c.loop.counter s _ (known c.loop.room (g.R.Source.left c.loop.reader)) _ _ c.loop.engine _ _ _ _ c.loop-test.true (c.loop.invariant.told s b) (c.loop.invariant.flushed f) (c.loop.invariant.turns f s b) c.in_ok-next_line.ensures.moments

pub returns-in_err-next_line-clause-turns : goal.returns-in_err-next_line-clause-turns
returns-in_err-next_line-clause-turns g c = λ f s b. ReadsAt-HasTold c.args.lines c.loop.counter s _ (known c.loop.room (g.R.Source.left c.loop.reader)) _ _ c.loop.engine _ _ _ _ c.loop-test.true (c.loop.invariant.told s b) (c.loop.invariant.flushed f) (c.loop.invariant.turns f s b) c.in_err-next_line.ensures.moments
