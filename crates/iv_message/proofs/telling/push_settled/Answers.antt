use Rattle.json.proofs.OnLiterals.{json_on_literals}
use Rattle.iv_message.proofs.telling.push_settled.Goals as goal

pub returns : goal.returns
unfolding json_on_literals
returns c = c.in_ok-extend_from_slice.ensures.items
