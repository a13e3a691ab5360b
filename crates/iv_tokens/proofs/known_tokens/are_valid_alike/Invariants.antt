use Rattle.std.proofs.Common.{◌≡◌, take}
use Rattle.iv_tokens.specs.Entries.{valid_at}
use Rattle.iv_tokens.proofs.known_tokens.are_valid_alike.Given as goal

abbrev pub invariant-loop-entry : goal.invariant-loop-entry
invariant-loop-entry l = valid_at l.then (take l.entry-index l.entries) ≡ valid_at l.now (take l.entry-index l.entries)
