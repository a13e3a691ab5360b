use Rattle.std.proofs.Common.{◌≡◌, drop}
use Rattle.iv_rows.specs.View as iv_rows
use Rattle.iv_request.specs.Documents.{items_data}
use Rattle.iv_request.specs.Request.{each, cell_of}
use Rattle.iv_request.proofs.Each.{behind}
use Rattle.iv_request.proofs.entries.cells_of.Given as goal

abbrev pub invariant-loop-item : goal.invariant-loop-item
invariant-loop-item l = each cell_of (items_data l.items) ≡ behind (iv_rows.cells_of l.values.items) (each cell_of (items_data (drop l.item-index l.items)))
