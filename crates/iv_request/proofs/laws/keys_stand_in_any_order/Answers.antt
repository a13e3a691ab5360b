use Rattle.std.proofs.Common.{refl}
use Rattle.serde_json.proofs.OnLiterals.{serde_json_on_literals}
use Rattle.iv_rows.specs.Names.{reserved}
use Rattle.iv_request.proofs.Order.{request-HaveTheSame, request-IsReordered, reading_of-IsReordered}
use Rattle.iv_request.proofs.laws.keys_stand_in_any_order.Goals as goal

pub returns-clause-of_requests : goal.returns-clause-of_requests
returns-clause-of_requests c = request-HaveTheSame

pub returns-clause-of_entries : goal.returns-clause-of_entries
returns-clause-of_entries c = request-IsReordered

pub returns-clause-of_lines : goal.returns-clause-of_lines
returns-clause-of_lines c = reading_of-IsReordered

pub returns-clause-begin : goal.returns-clause-begin
unfolding serde_json_on_literals reserved
returns-clause-begin c = refl

pub returns-clause-write : goal.returns-clause-write
unfolding serde_json_on_literals reserved
returns-clause-write c = refl
