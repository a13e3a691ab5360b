use Rattle.std.proofs.Common.{refl}
use Rattle.tests_machine.proofs.TextValues.{texts_compute}
use Rattle.tests_machine.proofs.examples.memberships_compute.Goals as goal

pub returns-clause-membership_and_policy : goal.returns-clause-membership_and_policy
unfolding texts_compute
returns-clause-membership_and_policy c = refl

pub returns-clause-members_keep_their_names : goal.returns-clause-members_keep_their_names
unfolding texts_compute
returns-clause-members_keep_their_names c = refl

pub returns-clause-policy_by_two_steps : goal.returns-clause-policy_by_two_steps
unfolding texts_compute
returns-clause-policy_by_two_steps c = refl

pub returns-clause-revoke_ends_and_takes : goal.returns-clause-revoke_ends_and_takes
unfolding texts_compute
returns-clause-revoke_ends_and_takes c = refl
