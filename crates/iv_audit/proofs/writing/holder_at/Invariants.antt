use Rattle.std.proofs.Common.{◌≡◌, drop}
use Rattle.iv_audit.specs.Writing.{holder_at}
use Rattle.iv_audit.proofs.writing.holder_at.Given as goal

abbrev pub invariant-loop-share : goal.invariant-loop-share
invariant-loop-share l = holder_at (drop l.share-index l.shares) l.at ≡ holder_at l.shares l.at
