use Rattle.std.proofs.Common.{◌∙◌, ◌∷◌, ap, refl}
use Rattle.json.specs.Reads.{token_of}
use Rattle.iv_request.specs.Request.{cell_of}
use Rattle.iv_reading.proofs.TokensAndValues.{Pulls-cell_of_number, Pulls-cell_of_text, Pulls-same_tokens, Pulls-boolean}
use Rattle.iv_reading.proofs.writes.cell_in.Goals as goal

pub returns-in-Some-Number-clause-cell : goal.returns-in-Some-Number-clause-cell
returns-in-Some-Number-clause-cell c = Pulls-cell_of_number c.in-Some-Number.text.now c.number_cell.result c.next.new.self c.args.reader.now (c.in-Some-Number.ensures.value ∙ ap (λ k. token_of k ∷ c.next.new.self) c.in-Some-Number.field-0-is) c.number_cell.ensures

pub returns-in_ok-cell-in-Some-String-clause-cell : goal.returns-in_ok-cell-in-Some-String-clause-cell
returns-in_ok-cell-in-Some-String-clause-cell c = Pulls-cell_of_text c.in-Some-String.text.now _ c.next.new.self c.args.reader.now (c.in-Some-String.ensures.value ∙ ap (λ k. token_of k ∷ c.next.new.self) c.in-Some-String.field-0-is) c.in_ok-cell-in-Some-String.ensures

pub returns-in-Some-Bool-clause-cell : goal.returns-in-Some-Bool-clause-cell
returns-in-Some-Bool-clause-cell c = Pulls-same_tokens 0 cell_of _ _ _ _ (c.in-Some-Bool.ensures.value ∙ ap (λ k. token_of k ∷ c.next.new.self) c.in-Some-Bool.field-0-is) (Pulls-boolean cell_of c.in-Some-Bool.flag c.next.new.self _ refl)
