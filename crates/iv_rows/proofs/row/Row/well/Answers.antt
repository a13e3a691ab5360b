use Rattle.std.proofs.Common.{◌∙◌, sym, ap}
use Rattle.std.proofs.lemmas.List.Folds.{list_all-map}
use Rattle.iv_rows.specs.Texts.{is_well, is_well_cell}
use Rattle.iv_rows.specs.View.{cell_of}
use Rattle.iv_rows.proofs.row.Row.well.Goals as goal

pub returns : goal.returns
returns c = c.are_well.ensures ∙ sym (list_all-map is_well_cell cell_of c.values.result.now) ∙ ap is_well c.values.ensures
