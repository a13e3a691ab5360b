use Rattle.std.proofs.Common.{refl}
use Rattle.serde_json.proofs.OnLiterals.{serde_json_on_literals}
use Rattle.std.specs.Str.{chars, is_utf8}
use Rattle.iv_rows.specs.Names.{reserved}
use Rattle.iv_message.proofs.laws.reasons_are_told.Goals as goal

pub returns-clause-no_json : goal.returns-clause-no_json
unfolding serde_json_on_literals reserved is_utf8 chars
returns-clause-no_json c = refl

pub returns-clause-no_object : goal.returns-clause-no_object
unfolding serde_json_on_literals reserved is_utf8 chars
returns-clause-no_object c = refl

pub returns-clause-no_word : goal.returns-clause-no_word
unfolding serde_json_on_literals reserved is_utf8 chars
returns-clause-no_word c = refl

pub returns-clause-begin : goal.returns-clause-begin
unfolding serde_json_on_literals reserved is_utf8 chars
returns-clause-begin c = refl

pub returns-clause-finish : goal.returns-clause-finish
unfolding serde_json_on_literals reserved is_utf8 chars
returns-clause-finish c = refl

pub returns-clause-id : goal.returns-clause-id
unfolding serde_json_on_literals reserved is_utf8 chars
returns-clause-id c = refl

pub returns-clause-missing : goal.returns-clause-missing
unfolding serde_json_on_literals reserved is_utf8 chars
returns-clause-missing c = refl

pub returns-clause-unknown : goal.returns-clause-unknown
unfolding serde_json_on_literals reserved is_utf8 chars
returns-clause-unknown c = refl

pub returns-clause-session : goal.returns-clause-session
unfolding serde_json_on_literals reserved is_utf8 chars
returns-clause-session c = refl

pub returns-clause-wrong : goal.returns-clause-wrong
unfolding serde_json_on_literals reserved is_utf8 chars
returns-clause-wrong c = refl

pub returns-clause-entry : goal.returns-clause-entry
unfolding serde_json_on_literals reserved is_utf8 chars
returns-clause-entry c = refl

pub returns-clause-text : goal.returns-clause-text
unfolding serde_json_on_literals reserved is_utf8 chars
returns-clause-text c = refl
