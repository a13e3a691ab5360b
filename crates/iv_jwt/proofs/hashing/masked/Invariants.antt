use Rattle.std.proofs.Common.{◌≡◌, length, take}
use Rattle.iv_jwt.specs.Hmac.{masked}
use Rattle.iv_jwt.proofs.hashing.masked.Given as goal

abbrev pub invariant-loop-at : goal.invariant-loop-at
invariant-loop-at l = (length l.out ≡ length l.block) × (take l.at l.out ≡ masked l.mask (take l.at l.block))
