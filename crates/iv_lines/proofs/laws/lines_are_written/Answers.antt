use Rattle.std.proofs.Common.{refl}
use Rattle.serde_json.proofs.OnLiterals.{serde_json_on_literals}
use Rattle.std.specs.Fmt.{digits}
use Rattle.iv_lines.proofs.laws.lines_are_written.Goals as goal

pub returns-clause-done : goal.returns-clause-done
unfolding serde_json_on_literals digits
returns-clause-done c = refl

pub returns-clause-subscribed : goal.returns-clause-subscribed
unfolding serde_json_on_literals digits
returns-clause-subscribed c = refl

pub returns-clause-change : goal.returns-clause-change
unfolding serde_json_on_literals digits
returns-clause-change c = refl

pub returns-clause-ended : goal.returns-clause-ended
unfolding serde_json_on_literals digits
returns-clause-ended c = refl

pub returns-clause-no_session : goal.returns-clause-no_session
unfolding serde_json_on_literals digits
returns-clause-no_session c = refl

pub returns-clause-bad_row : goal.returns-clause-bad_row
unfolding serde_json_on_literals digits
returns-clause-bad_row c = refl

pub returns-clause-bad_query : goal.returns-clause-bad_query
unfolding serde_json_on_literals digits
returns-clause-bad_query c = refl

pub returns-clause-privilege : goal.returns-clause-privilege
unfolding serde_json_on_literals digits
returns-clause-privilege c = refl

pub returns-clause-permissive : goal.returns-clause-permissive
unfolding serde_json_on_literals digits
returns-clause-permissive c = refl

pub returns-clause-restrictive : goal.returns-clause-restrictive
unfolding serde_json_on_literals digits
returns-clause-restrictive c = refl

pub returns-clause-fault : goal.returns-clause-fault
unfolding serde_json_on_literals digits
returns-clause-fault c = refl

pub returns-clause-update_old : goal.returns-clause-update_old
unfolding serde_json_on_literals digits
returns-clause-update_old c = refl

pub returns-clause-no_such_row : goal.returns-clause-no_such_row
unfolding serde_json_on_literals digits
returns-clause-no_such_row c = refl

pub returns-clause-unknown_policy : goal.returns-clause-unknown_policy
unfolding serde_json_on_literals digits
returns-clause-unknown_policy c = refl

pub returns-clause-bad_policy : goal.returns-clause-bad_policy
unfolding serde_json_on_literals digits
returns-clause-bad_policy c = refl

pub returns-clause-limit : goal.returns-clause-limit
unfolding serde_json_on_literals digits
returns-clause-limit c = refl

pub returns-clause-not_a_table : goal.returns-clause-not_a_table
unfolding serde_json_on_literals digits
returns-clause-not_a_table c = refl

pub returns-clause-unknown_subscription : goal.returns-clause-unknown_subscription
unfolding serde_json_on_literals digits
returns-clause-unknown_subscription c = refl

pub returns-clause-membership_loop : goal.returns-clause-membership_loop
unfolding serde_json_on_literals digits
returns-clause-membership_loop c = refl
