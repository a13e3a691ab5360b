use Rattle.std.proofs.Common.{arith}
use Rattle.iv_command.specs.RowTexts.{entry_data}
use Rattle.iv_command.proofs.TokenTexts.{Adds-item, AddsValue-items}
use Rattle.iv_command.proofs.rows.put_rows.Goals as goal

pub loop-entry-preserved : goal.loop-entry-preserved
loop-entry-preserved c = Adds-item entry_data c.args.rows.now c.args.out.now c.loop-entry.out c.put_entry.new.out c.loop-entry.entry-index c.entry-item.result c.loop-entry.invariant (omega arith) c.entry-item.is c.in_ok-put_entry.ensures

pub returns : goal.returns
returns c = AddsValue-items c.end_array.result entry_data c.args.rows.now c.args.out.now c.loop-entry.out c.end_array.new.self c.loop-entry.entry-index (omega arith) c.loop-entry.invariant c.end_array.ensures
