use Rattle.std.proofs.Common.{◌≤◌, length}
use Rattle.iv_rows.specs.View as iv_rows
use Rattle.iv_reading.specs.Pulled.{HasRead}
use Rattle.iv_request.specs.Request.{cell_of}
use Rattle.iv_reading.proofs.writes.cells_in.Given as goal

abbrev pub invariant-loop-alloc : goal.invariant-loop-alloc
invariant-loop-alloc l = HasRead 0 cell_of l.initial.reader (iv_rows.cells_of l.values.items) l.reader × (length l.reader ≤ length l.initial.reader)

abbrev pub decreases-loop-alloc : goal.decreases-loop-alloc
decreases-loop-alloc l = length l.reader
