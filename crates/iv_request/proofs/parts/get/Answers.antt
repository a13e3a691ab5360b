use Rattle.json.specs.Value.{value_view}
use Rattle.iv_request.proofs.BorrowedValues.{get-value_data}
use Rattle.iv_request.proofs.parts.get.Goals as goal

pub returns : goal.returns
returns c = get-value_data _ c.args.key.now (value_view c.args.value.now) c.get.ensures
