use Rattle.std.proofs.Common.{◌≡◌, ◌++◌, take}
use Rattle.iv_tokens.specs.Entries.{valid_at}
use Rattle.iv_tokens.proofs.known_tokens.push_valid.Given as goal

abbrev pub invariant-loop-entry : goal.invariant-loop-entry
invariant-loop-entry l = l.tokens.items ≡ l.fn.tokens.items ++ valid_at l.now (take l.entry-index l.entries)
