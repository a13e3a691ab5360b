use Rattle.iv_rows.proofs.Schemas.{accepts-other_length}
use Rattle.iv_rows.proofs.schema.are_of.Goals as goal

pub returns-then-values-columns : goal.returns-then-values-columns
returns-then-values-columns c = accepts-other_length c.args.columns.now c.args.values.now c.if-values-columns.true
