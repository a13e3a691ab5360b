use Rattle.std.proofs.Common.{refl}
use Rattle.tests_machine.proofs.TextValues.{texts_compute}
use Rattle.tests_machine.proofs.examples.views_compute.Goals as goal

pub returns-clause-grouped_sums : goal.returns-clause-grouped_sums
unfolding texts_compute
returns-clause-grouped_sums c = refl

pub returns-clause-query_faults : goal.returns-clause-query_faults
unfolding texts_compute
returns-clause-query_faults c = refl

pub returns-clause-join_both_sides_at_once : goal.returns-clause-join_both_sides_at_once
unfolding texts_compute
returns-clause-join_both_sides_at_once c = refl

pub returns-clause-union_and_union_all : goal.returns-clause-union_and_union_all
unfolding texts_compute
returns-clause-union_and_union_all c = refl

pub returns-clause-except_under_policy : goal.returns-clause-except_under_policy
unfolding texts_compute
returns-clause-except_under_policy c = refl

pub returns-clause-node_row_limit : goal.returns-clause-node_row_limit
unfolding texts_compute
returns-clause-node_row_limit c = refl

pub returns-clause-ended_by_limit : goal.returns-clause-ended_by_limit
unfolding texts_compute
returns-clause-ended_by_limit c = refl

pub returns-clause-sum_limits : goal.returns-clause-sum_limits
unfolding texts_compute
returns-clause-sum_limits c = refl

pub returns-clause-table_limit : goal.returns-clause-table_limit
unfolding texts_compute
returns-clause-table_limit c = refl
