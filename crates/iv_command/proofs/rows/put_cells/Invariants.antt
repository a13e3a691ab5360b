use Rattle.std.proofs.Common.{◌∷◌, take}
use Rattle.json.specs.Token.{begin_array}
use Rattle.iv_command.specs.RowTexts.{cell_data}
use Rattle.iv_rows.specs.View.{cell_of}
use Rattle.iv_command.specs.Tokens.{Adds}
use Rattle.iv_command.proofs.TokenTexts.{each_tokens}
use Rattle.iv_command.proofs.rows.put_cells.Given as goal

abbrev pub invariant-loop-cell : goal.invariant-loop-cell
invariant-loop-cell l = Adds l.fn.out l.out (begin_array ∷ each_tokens (λ x. cell_data (cell_of x)) (take l.cell-index l.cells))
