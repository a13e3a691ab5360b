use Rattle.std.proofs.Common.{◌≡◌, take}
use Rattle.iv_readers.specs.Flags.{differing}
use Rattle.iv_readers.proofs.flags.differing.Given as goal

abbrev pub invariant-loop-place : goal.invariant-loop-place
invariant-loop-place l = l.flags.items ≡ differing (take l.place l.before) (take l.place l.after)
