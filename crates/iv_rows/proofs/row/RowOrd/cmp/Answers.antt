use Rattle.std.proofs.Common.{◌∙◌}
use Rattle.iv_rows.specs.Order.{row_cmp}
use Rattle.iv_rows.proofs.Views.{row_cmp-slice_cmp}
use Rattle.iv_rows.proofs.row.RowOrd.cmp.Goals as goal

pub returns : goal.returns
returns c = c.cmp.ensures ∙ row_cmp-slice_cmp c.values.result.now c.values-2.result.now ∙ (λ i. row_cmp (c.values.ensures i) (c.values-2.ensures i))
