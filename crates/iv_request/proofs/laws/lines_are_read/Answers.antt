use Rattle.std.proofs.Common.{refl}
use Rattle.serde_json.proofs.OnLiterals.{serde_json_on_literals}
use Rattle.iv_rows.specs.Names.{reserved}
use Rattle.iv_request.proofs.laws.lines_are_read.Goals as goal

pub returns-clause-begin : goal.returns-clause-begin
unfolding serde_json_on_literals reserved
returns-clause-begin c = refl

pub returns-clause-role : goal.returns-clause-role
unfolding serde_json_on_literals reserved
returns-clause-role c = refl

pub returns-clause-table : goal.returns-clause-table
unfolding serde_json_on_literals reserved
returns-clause-table c = refl

pub returns-clause-grant : goal.returns-clause-grant
unfolding serde_json_on_literals reserved
returns-clause-grant c = refl

pub returns-clause-public : goal.returns-clause-public
unfolding serde_json_on_literals reserved
returns-clause-public c = refl

pub returns-clause-revoke : goal.returns-clause-revoke
unfolding serde_json_on_literals reserved
returns-clause-revoke c = refl

pub returns-clause-subscribe : goal.returns-clause-subscribe
unfolding serde_json_on_literals reserved
returns-clause-subscribe c = refl

pub returns-clause-write : goal.returns-clause-write
unfolding serde_json_on_literals reserved
returns-clause-write c = refl
