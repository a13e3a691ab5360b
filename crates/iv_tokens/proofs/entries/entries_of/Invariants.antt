use Rattle.std.proofs.Common.{◌≡◌}
use Rattle.iv_tokens.specs.Lines.{behind_entries}
use Rattle.iv_clients.specs.Tokens.{lines_of}
use Rattle.iv_tokens.specs.Entries.{entries_of}
use Rattle.iv_tokens.proofs.entries.entries_of.Given as goal

abbrev pub invariant-loop-number : goal.invariant-loop-number
invariant-loop-number l = behind_entries l.entries.items (entries_of (lines_of l.rest)) ≡ entries_of (lines_of l.file)
