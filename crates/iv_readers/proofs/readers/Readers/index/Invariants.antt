use Rattle.std.proofs.Common.{take}
use Rattle.iv_readers.specs.Index.{IsIndexOf}
use Rattle.iv_readers.proofs.readers.Readers.index.Given as goal

-- the readers so far are found
abbrev pub invariant-loop-place : goal.invariant-loop-place
invariant-loop-place l = IsIndexOf (take l.place l.self) l.index
