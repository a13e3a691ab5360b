use Rattle.std.proofs.Common.{◌≡◌, take}
use Rattle.iv_message.specs.Message.{on_one_line}
use Rattle.iv_message.proofs.reading.on_one_line.Given as goal

abbrev pub invariant-loop-byte : goal.invariant-loop-byte
invariant-loop-byte l = l.line.items ≡ on_one_line (take l.byte-index l.text)
