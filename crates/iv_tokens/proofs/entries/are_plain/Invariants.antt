use Rattle.std.proofs.Common.{◌≡◌, drop}
use Rattle.std.specs.List.{list_all}
use Rattle.iv_tokens.specs.Entries.{is_plain}
use Rattle.iv_tokens.proofs.entries.are_plain.Given as goal

abbrev pub invariant-loop-byte : goal.invariant-loop-byte
invariant-loop-byte l = list_all is_plain (drop l.byte-index l.text) ≡ list_all is_plain l.text
