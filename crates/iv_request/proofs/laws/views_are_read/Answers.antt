use Rattle.std.proofs.Common.{refl}
use Rattle.serde_json.proofs.OnLiterals.{serde_json_on_literals}
use Rattle.iv_rows.specs.Names.{reserved}
use Rattle.iv_request.proofs.laws.views_are_read.Goals as goal

pub returns-clause-create_view : goal.returns-clause-create_view
unfolding serde_json_on_literals reserved
returns-clause-create_view c = refl

pub returns-clause-any_text : goal.returns-clause-any_text
unfolding serde_json_on_literals reserved
returns-clause-any_text c = refl

pub returns-clause-unsubscribe : goal.returns-clause-unsubscribe
unfolding serde_json_on_literals reserved
returns-clause-unsubscribe c = refl

pub returns-clause-last : goal.returns-clause-last
unfolding serde_json_on_literals reserved
returns-clause-last c = refl

pub returns-clause-finish : goal.returns-clause-finish
unfolding serde_json_on_literals reserved
returns-clause-finish c = refl
