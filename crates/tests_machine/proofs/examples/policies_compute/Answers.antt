use Rattle.std.proofs.Common.{refl}
use Rattle.tests_machine.proofs.TextValues.{texts_compute}
use Rattle.tests_machine.proofs.examples.policies_compute.Goals as goal

pub returns-clause-row_security_then_policy : goal.returns-clause-row_security_then_policy
unfolding texts_compute
returns-clause-row_security_then_policy c = refl

pub returns-clause-restrictive_alone : goal.returns-clause-restrictive_alone
unfolding texts_compute
returns-clause-restrictive_alone c = refl

pub returns-clause-insert_check_refused : goal.returns-clause-insert_check_refused
unfolding texts_compute
returns-clause-insert_check_refused c = refl

pub returns-clause-restrictive_named_first : goal.returns-clause-restrictive_named_first
unfolding texts_compute
returns-clause-restrictive_named_first c = refl

pub returns-clause-update_needs_select_on_new : goal.returns-clause-update_needs_select_on_new
unfolding texts_compute
returns-clause-update_needs_select_on_new c = refl

pub returns-clause-hidden_row_delete : goal.returns-clause-hidden_row_delete
unfolding texts_compute
returns-clause-hidden_row_delete c = refl

pub returns-clause-update_tests : goal.returns-clause-update_tests
unfolding texts_compute
returns-clause-update_tests c = refl

pub returns-clause-unknown_policy : goal.returns-clause-unknown_policy
unfolding texts_compute
returns-clause-unknown_policy c = refl

pub returns-clause-refused_batch_leaves_nothing : goal.returns-clause-refused_batch_leaves_nothing
unfolding texts_compute
returns-clause-refused_batch_leaves_nothing c = refl

pub returns-clause-owner_and_force : goal.returns-clause-owner_and_force
unfolding texts_compute
returns-clause-owner_and_force c = refl

pub returns-clause-presence_in_batch_order : goal.returns-clause-presence_in_batch_order
unfolding texts_compute
returns-clause-presence_in_batch_order c = refl

pub returns-clause-policy_texts : goal.returns-clause-policy_texts
unfolding texts_compute
returns-clause-policy_texts c = refl

pub returns-clause-check_in_place_of_using : goal.returns-clause-check_in_place_of_using
unfolding texts_compute
returns-clause-check_in_place_of_using c = refl

pub returns-clause-policies_by_command : goal.returns-clause-policies_by_command
unfolding texts_compute
returns-clause-policies_by_command c = refl

pub returns-clause-policy_swap_same_rows : goal.returns-clause-policy_swap_same_rows
unfolding texts_compute
returns-clause-policy_swap_same_rows c = refl

pub returns-clause-policy_adds_a_row : goal.returns-clause-policy_adds_a_row
unfolding texts_compute
returns-clause-policy_adds_a_row c = refl
