use Rattle.std.proofs.Common.{◌∙◌}
use Rattle.iv_rows.specs.Order.{row_eq}
use Rattle.iv_rows.proofs.row.RowPartialEq.eq.Goals as goal

pub returns : goal.returns
returns c = c.are_equal.ensures ∙ (λ i. row_eq (c.values.ensures i) (c.values-2.ensures i))
