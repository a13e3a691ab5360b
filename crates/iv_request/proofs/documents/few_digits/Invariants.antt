use Rattle.std.proofs.Common.{◌≡◌, take}
use Rattle.std.specs.Str.Parse.{AllDigits, digits_value}
use Rattle.iv_request.proofs.documents.few_digits.Given as goal

abbrev pub invariant-loop-byte : goal.invariant-loop-byte
invariant-loop-byte l = (l.number ≡ digits_value 10 (take l.byte-index l.bytes)) × AllDigits 10 (take l.byte-index l.bytes)
