use Rattle.std.proofs.Common.{◌≡◌, take}
use Rattle.std.specs.Prelude.{map}
use Rattle.iv_tokens.specs.Moments.{shape_of}
use Rattle.iv_tokens.proofs.moments.shape_in.Given as goal

abbrev pub invariant-loop-byte : goal.invariant-loop-byte
invariant-loop-byte l = l.shape.items ≡ map shape_of (take l.byte-index l.text)
