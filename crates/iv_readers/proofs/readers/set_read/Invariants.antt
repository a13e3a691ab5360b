use Rattle.std.proofs.Common.{take}
use Rattle.iv_readers.proofs.ReadFlags.{AreReadFlags}
use Rattle.iv_readers.proofs.readers.set_read.Given as goal

-- the flags of those so far
abbrev pub invariant-loop-reader : goal.invariant-loop-reader
invariant-loop-reader l = AreReadFlags (take l.reader-index l.readers) l.fn.flags l.flags
