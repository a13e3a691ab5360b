use Rattle.std.proofs.Common.{◌≤◌, length}
use Rattle.iv_reading.specs.Pulled.{HasRead}
use Rattle.iv_request.specs.Request.{entry_of}
use Rattle.iv_reading.proofs.writes.entries_in.Given as goal

abbrev pub invariant-loop-alloc : goal.invariant-loop-alloc
invariant-loop-alloc l = HasRead 3 entry_of l.initial.reader l.entries.items l.reader × (length l.reader ≤ length l.initial.reader)

abbrev pub decreases-loop-alloc : goal.decreases-loop-alloc
decreases-loop-alloc l = length l.reader
