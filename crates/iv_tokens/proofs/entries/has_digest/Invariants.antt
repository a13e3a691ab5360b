use Rattle.std.proofs.Common.{◌≡◌, drop}
use Rattle.iv_clients.specs.Tokens.{has_digest}
use Rattle.iv_tokens.specs.Entries.{tokens_among}
use Rattle.iv_tokens.proofs.entries.has_digest.Given as goal

abbrev pub invariant-loop-entry : goal.invariant-loop-entry
invariant-loop-entry l = has_digest l.digest (tokens_among (drop l.entry-index l.entries)) ≡ has_digest l.digest (tokens_among l.entries)
