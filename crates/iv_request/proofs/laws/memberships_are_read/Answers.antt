use Rattle.std.proofs.Common.{refl}
use Rattle.serde_json.proofs.OnLiterals.{serde_json_on_literals}
use Rattle.iv_rows.specs.Names.{reserved}
use Rattle.iv_request.proofs.laws.memberships_are_read.Goals as goal

pub returns-clause-grant : goal.returns-clause-grant
unfolding serde_json_on_literals reserved
returns-clause-grant c = refl

pub returns-clause-revoke : goal.returns-clause-revoke
unfolding serde_json_on_literals reserved
returns-clause-revoke c = refl

pub returns-clause-superuser : goal.returns-clause-superuser
unfolding serde_json_on_literals reserved
returns-clause-superuser c = refl

pub returns-clause-of_superuser : goal.returns-clause-of_superuser
unfolding serde_json_on_literals reserved
returns-clause-of_superuser c = refl

pub returns-clause-no_longer_of_superuser : goal.returns-clause-no_longer_of_superuser
unfolding serde_json_on_literals reserved
returns-clause-no_longer_of_superuser c = refl

pub returns-clause-public : goal.returns-clause-public
unfolding serde_json_on_literals reserved
returns-clause-public c = refl

pub returns-clause-no_member : goal.returns-clause-no_member
unfolding serde_json_on_literals reserved
returns-clause-no_member c = refl
