use Rattle.std.proofs.Common.{◌≡◌}
use Rattle.iv_clients.specs.Parsed.{behind_tokens}
use Rattle.iv_clients.specs.Tokens.{lines_of, tokens_of}
use Rattle.iv_clients.proofs.tokens.tokens_of.Given as goal

abbrev pub invariant-loop-number : goal.invariant-loop-number
invariant-loop-number l = behind_tokens l.tokens.items (tokens_of (lines_of l.rest)) ≡ tokens_of (lines_of l.file)
