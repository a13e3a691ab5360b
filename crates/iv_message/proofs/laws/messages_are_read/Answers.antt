use Rattle.std.proofs.Common.{refl}
use Rattle.serde_json.proofs.OnLiterals.{serde_json_on_literals}
use Rattle.std.specs.Str.{chars, is_utf8}
use Rattle.iv_rows.specs.Names.{reserved}
use Rattle.iv_message.proofs.laws.messages_are_read.Goals as goal

pub returns-clause-subscribe : goal.returns-clause-subscribe
unfolding serde_json_on_literals reserved is_utf8 chars
returns-clause-subscribe c = refl

pub returns-clause-newline : goal.returns-clause-newline
unfolding serde_json_on_literals reserved is_utf8 chars
returns-clause-newline c = refl

pub returns-clause-number : goal.returns-clause-number
unfolding serde_json_on_literals reserved is_utf8 chars
returns-clause-number c = refl

pub returns-clause-text : goal.returns-clause-text
unfolding serde_json_on_literals reserved is_utf8 chars
returns-clause-text c = refl
