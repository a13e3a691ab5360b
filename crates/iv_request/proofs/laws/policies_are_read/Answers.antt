use Rattle.std.proofs.Common.{refl}
use Rattle.serde_json.proofs.OnLiterals.{serde_json_on_literals}
use Rattle.iv_rows.specs.Names.{reserved}
use Rattle.iv_request.proofs.laws.policies_are_read.Goals as goal

pub returns-clause-row_security : goal.returns-clause-row_security
unfolding serde_json_on_literals reserved
returns-clause-row_security c = refl

pub returns-clause-defaults : goal.returns-clause-defaults
unfolding serde_json_on_literals reserved
returns-clause-defaults c = refl

pub returns-clause-restrictive : goal.returns-clause-restrictive
unfolding serde_json_on_literals reserved
returns-clause-restrictive c = refl

pub returns-clause-both_texts : goal.returns-clause-both_texts
unfolding serde_json_on_literals reserved
returns-clause-both_texts c = refl

pub returns-clause-drop : goal.returns-clause-drop
unfolding serde_json_on_literals reserved
returns-clause-drop c = refl

pub returns-clause-delete : goal.returns-clause-delete
unfolding serde_json_on_literals reserved
returns-clause-delete c = refl

pub returns-clause-update : goal.returns-clause-update
unfolding serde_json_on_literals reserved
returns-clause-update c = refl

pub returns-clause-copies : goal.returns-clause-copies
unfolding serde_json_on_literals reserved
returns-clause-copies c = refl
