use Rattle.std.proofs.Common.{arith, rules, length, ◌-◌, ◌≡◌, ap, ◌∙◌, sym, subst, ◌==◌, ◌≢◌}
use Rattle.std.proofs.lemmas.List.Elements.{All-nil}
use Rattle.iv_lines.proofs.Known.{or_false}
use Rattle.iv_lines.proofs.FirstLine.{IsCut-Nothing, IsCut-Line, IsCut-TakesPart, IsBegun-TakesPart, IsBegun-Keeps, All-TakesPart, lt-TakesPart, IsCut-Endless, IsBegun-nothing, OnOk-not_is_err, IsAtEnd-prepend_known}
use Rattle.iv_lines.specs.Ahead.{ahead, known}
use Rattle.iv_lines.specs.Reads.{IsBegun}
use Rattle.iv_lines.proofs.Moments.{ReadsAt-none, ReadsAt-IsBegun}
use Rattle.iv_lines.proofs.lines.next_line.Goals as goal

pub loop-room-init : goal.loop-room-init
loop-room-init g c = record {
  begun = rw c.clear.ensures.items (IsBegun-nothing (known c.args.room.now (g.R.Source.left c.args.reader.now)));
  plain = rw c.clear.ensures.items (All-nil (λ b. b ≢ 10));
  within = rw c.clear.ensures.items (omega arith);
  failed = search rules;
  reads = omega arith;
  moments = ReadsAt-none _ _;
}

pub returns-then-is_empty-2-clause-cut : goal.returns-then-is_empty-2-clause-cut
returns-then-is_empty-2-clause-cut g c =
    let ok = c.is_err.ensures.value in
    let filled = OnOk-not_is_err c.fill.result _ (sym ok ∙ c.if-is_err.false) c.fill.ensures.ok in
    let none = c.is_empty.ensures.empty c.if-is_empty.true in
    let end = IsAtEnd-prepend_known (ahead c.fill.new.self) (g.R.Source.left c.fill.new.reader) none (OnOk-not_is_err c.fill.result _ (sym ok ∙ c.if-is_err.false) c.fill.ensures.end none) in
    IsCut-Nothing _ (known c.loop-room.room (g.R.Source.left c.loop-room.reader)) _ (length c.loop-room.line.items) c.loop-room.line.items (omega (arith, c.loop-room.line.ok.0)) c.loop-room.invariant.begun (filled, end) (ap (λ k. k == 0) (sym c.loop-room.line.ok.0) ∙ sym c.is_empty-then-is_empty.ensures ∙ c.if-is_empty-2.true)

pub returns-then-is_empty-clause-cut : goal.returns-then-is_empty-clause-cut
returns-then-is_empty-clause-cut g c =
    let ok = c.is_err.ensures.value in
    let filled = OnOk-not_is_err c.fill.result _ (sym ok ∙ c.if-is_err.false) c.fill.ensures.ok in
    let none = c.is_empty.ensures.empty c.if-is_empty.true in
    let end = IsAtEnd-prepend_known (ahead c.fill.new.self) (g.R.Source.left c.fill.new.reader) none (OnOk-not_is_err c.fill.result _ (sym ok ∙ c.if-is_err.false) c.fill.ensures.end none) in
    IsCut-Line _ (known c.loop-room.room (g.R.Source.left c.loop-room.reader)) _ (length c.loop-room.line.items) c.loop-room.line (omega (arith, c.loop-room.line.ok.0)) c.loop-room.invariant.begun (filled, end) (ap (λ k. k == 0) (sym c.loop-room.line.ok.0) ∙ sym c.is_empty-then-is_empty.ensures ∙ c.if-is_empty-2.false)

pub returns-then-branch-clause-cut : goal.returns-then-branch-clause-cut
returns-then-branch-clause-cut g c =
    let filled = OnOk-not_is_err c.fill.result _ (sym c.is_err.ensures.value ∙ c.if-is_err.false) c.fill.ensures.ok in
    let begun = IsBegun-Keeps (65537 - length c.loop-room.line.items) c.loop-room.line.items _ (known c.loop-room.room (g.R.Source.left c.loop-room.reader)) (known c.fill.new.self (g.R.Source.left c.fill.new.reader)) c.loop-room.invariant.begun filled in
    IsCut-TakesPart _ (g.R.Source.left c.fill.new.reader) (ahead c.fill.new.self) (ahead c.take_part.new.self) c.loop-room.line.items c.take_part.new.line (omega (arith, c.loop-room.line.ok.0)) begun (rw c.if-branch.true at c.in_ok-take_part.ensures)

pub loop-room-preserved : goal.loop-room-preserved
loop-room-preserved g c =
    let filled = OnOk-not_is_err c.fill.result _ (sym c.is_err.ensures.value ∙ c.if-is_err.false) c.fill.ensures.ok in
    let begun = IsBegun-Keeps (65537 - length c.loop-room.line.items) c.loop-room.line.items _ (known c.loop-room.room (g.R.Source.left c.loop-room.reader)) (known c.fill.new.self (g.R.Source.left c.fill.new.reader)) c.loop-room.invariant.begun filled in
    let took = rw c.if-branch.false at c.in_ok-take_part.ensures in
    let more = lt-TakesPart (ahead c.fill.new.self) (ahead c.take_part.new.self) c.loop-room.line.items c.take_part.new.line.items took in
    record {
      begun = IsBegun-TakesPart _ (g.R.Source.left c.fill.new.reader) (ahead c.fill.new.self) (ahead c.take_part.new.self) c.loop-room.line.items c.take_part.new.line.items (omega (arith, c.loop-room.line.ok.0)) begun took;
      plain = All-TakesPart (ahead c.fill.new.self) (ahead c.take_part.new.self) c.loop-room.line.items c.take_part.new.line.items c.loop-room.invariant.plain took;
      within = took.within;
      failed = grind (arith, c.fill.ensures.failed, c.loop-room.invariant.failed, or_false, c.is_err.ensures.value, c.if-is_err.false);
      reads = omega (arith, c.fill.ensures.counted);
      moments = ReadsAt-IsBegun _ (known c.loop-room.room (g.R.Source.left c.loop-room.reader)) _ _ c.loop-room.line.items _ _ _ _ c.loop-room.invariant.plain (omega (arith, c.loop-room.line.ok.0)) c.loop-room.invariant.begun c.loop-room.invariant.moments c.fill.ensures.moment;
    }

pub returns-clause-cut : goal.returns-clause-cut
returns-clause-cut g c =
    let e : 65537 - length c.loop-room.line.items ≡ 0 = omega (arith, c.loop-room.line.ok.0) in
    IsCut-Endless _ (known c.loop-room.room (g.R.Source.left c.loop-room.reader)) c.loop-room.line.items (subst (λ k. IsBegun k c.loop-room.line.items (known c.args.room.now (g.R.Source.left c.args.reader.now)) (known c.loop-room.room (g.R.Source.left c.loop-room.reader))) e c.loop-room.invariant.begun)

pub returns-then-is_err-clause-moments : goal.returns-then-is_err-clause-moments
returns-then-is_err-clause-moments g c = ReadsAt-IsBegun _ (known c.loop-room.room (g.R.Source.left c.loop-room.reader)) _ _ c.loop-room.line.items _ _ _ _ c.loop-room.invariant.plain (omega (arith, c.loop-room.line.ok.0)) c.loop-room.invariant.begun c.loop-room.invariant.moments c.fill.ensures.moment

pub returns-then-is_empty-2-clause-moments : goal.returns-then-is_empty-2-clause-moments
returns-then-is_empty-2-clause-moments g c = ReadsAt-IsBegun _ (known c.loop-room.room (g.R.Source.left c.loop-room.reader)) _ _ c.loop-room.line.items _ _ _ _ c.loop-room.invariant.plain (omega (arith, c.loop-room.line.ok.0)) c.loop-room.invariant.begun c.loop-room.invariant.moments c.fill.ensures.moment

pub returns-then-is_empty-clause-moments : goal.returns-then-is_empty-clause-moments
returns-then-is_empty-clause-moments g c = ReadsAt-IsBegun _ (known c.loop-room.room (g.R.Source.left c.loop-room.reader)) _ _ c.loop-room.line.items _ _ _ _ c.loop-room.invariant.plain (omega (arith, c.loop-room.line.ok.0)) c.loop-room.invariant.begun c.loop-room.invariant.moments c.fill.ensures.moment

pub returns-in_err-take_part-clause-moments : goal.returns-in_err-take_part-clause-moments
returns-in_err-take_part-clause-moments g c = ReadsAt-IsBegun _ (known c.loop-room.room (g.R.Source.left c.loop-room.reader)) _ _ c.loop-room.line.items _ _ _ _ c.loop-room.invariant.plain (omega (arith, c.loop-room.line.ok.0)) c.loop-room.invariant.begun c.loop-room.invariant.moments c.fill.ensures.moment

pub returns-then-branch-clause-moments : goal.returns-then-branch-clause-moments
returns-then-branch-clause-moments g c = ReadsAt-IsBegun _ (known c.loop-room.room (g.R.Source.left c.loop-room.reader)) _ _ c.loop-room.line.items _ _ _ _ c.loop-room.invariant.plain (omega (arith, c.loop-room.line.ok.0)) c.loop-room.invariant.begun c.loop-room.invariant.moments c.fill.ensures.moment
