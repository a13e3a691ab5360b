use Rattle.std.proofs.Common.{subst, sym, arith}
use Rattle.std.specs.Prelude.{OnOk}
use Rattle.serde_json.specs.Data.{array}
use Rattle.serde_json.specs.View.{items_of}
use Rattle.iv_command.specs.RowTexts.{cell_data}
use Rattle.iv_rows.specs.View.{cell_of}
use Rattle.iv_command.specs.Tokens.{AddsValue}
use Rattle.iv_command.proofs.TokenTexts.{Adds-item, AddsValue-items, map-map}
use Rattle.iv_command.proofs.rows.put_cells.Goals as goal

pub loop-cell-preserved : goal.loop-cell-preserved
loop-cell-preserved c = Adds-item (λ x. cell_data (cell_of x)) c.args.cells.now c.args.out.now c.loop-cell.out c.put_cell.new.out c.loop-cell.cell-index c.cell-item.result c.loop-cell.invariant (omega arith) c.cell-item.is c.in_ok-put_cell.ensures

pub returns : goal.returns
returns c =
    let xs = c.args.cells.now in
    let all = AddsValue-items c.end_array.result (λ x. cell_data (cell_of x)) xs c.args.out.now c.loop-cell.out c.end_array.new.self c.loop-cell.cell-index (omega arith) c.loop-cell.invariant c.end_array.ensures in
    subst (λ ds. OnOk c.end_array.result (AddsValue c.args.out.now c.end_array.new.self (array (items_of ds)))) (sym (map-map cell_data cell_of xs)) all
