use Rattle.std.proofs.Common.{refl}
use Rattle.serde_json.proofs.OnLiterals.{serde_json_on_literals}
use Rattle.iv_rows.specs.Names.{reserved}
use Rattle.iv_request.proofs.laws.unshapely_values_are_refused.Goals as goal

pub returns-clause-zero : goal.returns-clause-zero
unfolding serde_json_on_literals reserved
returns-clause-zero c = refl

pub returns-clause-further : goal.returns-clause-further
unfolding serde_json_on_literals reserved
returns-clause-further c = refl

pub returns-clause-copies : goal.returns-clause-copies
unfolding serde_json_on_literals reserved
returns-clause-copies c = refl

pub returns-clause-reserved : goal.returns-clause-reserved
unfolding serde_json_on_literals reserved
returns-clause-reserved c = refl

pub returns-clause-finish : goal.returns-clause-finish
unfolding serde_json_on_literals reserved
returns-clause-finish c = refl

pub returns-clause-two : goal.returns-clause-two
unfolding serde_json_on_literals reserved
returns-clause-two c = refl

pub returns-clause-update : goal.returns-clause-update
unfolding serde_json_on_literals reserved
returns-clause-update c = refl

pub returns-clause-using : goal.returns-clause-using
unfolding serde_json_on_literals reserved
returns-clause-using c = refl

pub returns-clause-check : goal.returns-clause-check
unfolding serde_json_on_literals reserved
returns-clause-check c = refl

pub returns-clause-no_text : goal.returns-clause-no_text
unfolding serde_json_on_literals reserved
returns-clause-no_text c = refl

pub returns-clause-no_grantee : goal.returns-clause-no_grantee
unfolding serde_json_on_literals reserved
returns-clause-no_grantee c = refl

pub returns-clause-query : goal.returns-clause-query
unfolding serde_json_on_literals reserved
returns-clause-query c = refl

pub returns-clause-no_subscription : goal.returns-clause-no_subscription
unfolding serde_json_on_literals reserved
returns-clause-no_subscription c = refl

pub returns-clause-beyond : goal.returns-clause-beyond
unfolding serde_json_on_literals reserved
returns-clause-beyond c = refl
