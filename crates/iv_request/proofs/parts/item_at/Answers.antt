use Rattle.json.specs.Value.{value_view}
use Rattle.iv_request.proofs.BorrowedValues.{at-value_data}
use Rattle.iv_request.proofs.parts.item_at.Goals as goal

pub returns : goal.returns
returns c = at-value_data _ c.args.place (value_view c.args.value.now) c.at.ensures
