use Rattle.std.proofs.Common.{◌≡◌, ◌++◌, take}
use Rattle.iv_audit.specs.Audit.{escaped}
use Rattle.iv_audit.proofs.writing.push_escaped.Given as goal

abbrev pub invariant-loop-byte : goal.invariant-loop-byte
invariant-loop-byte l = l.out.items ≡ l.initial.out.items ++ escaped (take l.byte-index l.name)
