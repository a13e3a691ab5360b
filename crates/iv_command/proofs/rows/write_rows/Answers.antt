use Rattle.std.proofs.Common.{◌∙◌}
use Rattle.iv_command.specs.RowTexts.{rows_data}
use Rattle.iv_command.proofs.TokenTexts.{print-AddsValue}
use Rattle.iv_command.proofs.rows.write_rows.Goals as goal

pub returns : goal.returns
returns c = c.into_inner.ensures.items ∙ print-AddsValue c.in_ok-room.room.items c.new-out.result c.put_rows.new.out (rows_data c.args.rows.now) c.in_ok-room.ensures.items c.new-out.ensures.before c.new-out.ensures.tokens c.in_ok-put_rows.ensures
