use Rattle.std.proofs.Common.{◌≡◌, ◌≢◌, ◌-◌, ◌+◌, ◌≤◌, length}
use Rattle.std.specs.List.{All}
use Rattle.iv_lines.specs.Ahead.{known}
use Rattle.iv_lines.specs.Moments.{IsWithinLine, ReadsAt}
use Rattle.iv_lines.specs.Reads.{IsBegun}
use Rattle.iv_lines.proofs.lines.next_line.Given as goal

abbrev pub invariant-loop-room : goal.invariant-loop-room
invariant-loop-room g l = record {
  begun : IsBegun (65537 - length l.line.items) l.line.items (known l.fn.room (g.R.Source.left l.fn.reader)) (known l.room (g.R.Source.left l.reader));
  plain : All (λ b. b ≢ 10) l.line.items;
  within : length l.line.items ≤ 65537;
  failed : g.R.Source.has_failed l.reader ≡ g.R.Source.has_failed l.fn.reader;
  reads : g.R.Source.reads l.reader ≤ g.R.Source.reads l.fn.reader + length l.line.items;
  moments : ReadsAt (IsWithinLine (known l.fn.room (g.R.Source.left l.fn.reader)) (g.W.Sink.taken l.writer) (g.W.Sink.is_flushed l.writer)) (g.R.Source.moments l.fn.reader) (g.R.Source.moments l.reader);
}

abbrev pub decreases-loop-room : goal.decreases-loop-room
decreases-loop-room g l = 65537 - length l.line.items
