use Rattle.std.proofs.Common.{refl}
use Rattle.serde_json.proofs.OnLiterals.{serde_json_on_literals}
use Rattle.std.specs.Fmt.{digits}
use Rattle.iv_message.proofs.laws.lines_are_told.Goals as goal

pub returns-clause-welcome : goal.returns-clause-welcome
unfolding serde_json_on_literals digits
returns-clause-welcome c = refl

pub returns-clause-done : goal.returns-clause-done
unfolding serde_json_on_literals digits
returns-clause-done c = refl

pub returns-clause-plain : goal.returns-clause-plain
unfolding serde_json_on_literals digits
returns-clause-plain c = refl

pub returns-clause-refused : goal.returns-clause-refused
unfolding serde_json_on_literals digits
returns-clause-refused c = refl

pub returns-clause-opened : goal.returns-clause-opened
unfolding serde_json_on_literals digits
returns-clause-opened c = refl

pub returns-clause-fault : goal.returns-clause-fault
unfolding serde_json_on_literals digits
returns-clause-fault c = refl

pub returns-clause-missing : goal.returns-clause-missing
unfolding serde_json_on_literals digits
returns-clause-missing c = refl

pub returns-clause-unknown : goal.returns-clause-unknown
unfolding serde_json_on_literals digits
returns-clause-unknown c = refl

pub returns-clause-wrong : goal.returns-clause-wrong
unfolding serde_json_on_literals digits
returns-clause-wrong c = refl

pub returns-clause-changed : goal.returns-clause-changed
unfolding serde_json_on_literals digits
returns-clause-changed c = refl

pub returns-clause-over : goal.returns-clause-over
unfolding serde_json_on_literals digits
returns-clause-over c = refl

pub returns-clause-limit : goal.returns-clause-limit
unfolding serde_json_on_literals digits
returns-clause-limit c = refl

pub returns-clause-settled : goal.returns-clause-settled
unfolding serde_json_on_literals digits
returns-clause-settled c = refl

pub returns-clause-granted : goal.returns-clause-granted
unfolding serde_json_on_literals digits
returns-clause-granted c = refl

pub returns-clause-made : goal.returns-clause-made
unfolding serde_json_on_literals digits
returns-clause-made c = refl

pub returns-clause-alive : goal.returns-clause-alive
unfolding serde_json_on_literals digits
returns-clause-alive c = refl

pub returns-clause-placed : goal.returns-clause-placed
unfolding serde_json_on_literals digits
returns-clause-placed c = refl

pub returns-clause-answered : goal.returns-clause-answered
unfolding serde_json_on_literals digits
returns-clause-answered c = refl

pub returns-clause-again : goal.returns-clause-again
unfolding serde_json_on_literals digits
returns-clause-again c = refl

pub returns-clause-undecided : goal.returns-clause-undecided
unfolding serde_json_on_literals digits
returns-clause-undecided c = refl

pub returns-clause-denied : goal.returns-clause-denied
unfolding serde_json_on_literals digits
returns-clause-denied c = refl
