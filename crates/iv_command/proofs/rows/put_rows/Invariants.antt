use Rattle.std.proofs.Common.{◌∷◌, take}
use Rattle.json.specs.Token.{begin_array}
use Rattle.iv_command.specs.RowTexts.{entry_data}
use Rattle.iv_command.specs.Tokens.{Adds}
use Rattle.iv_command.proofs.TokenTexts.{each_tokens}
use Rattle.iv_command.proofs.rows.put_rows.Given as goal

abbrev pub invariant-loop-entry : goal.invariant-loop-entry
invariant-loop-entry l = Adds l.fn.out l.out (begin_array ∷ each_tokens (entry_data) (take l.entry-index l.rows))
