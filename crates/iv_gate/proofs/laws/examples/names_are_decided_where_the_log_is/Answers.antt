use Rattle.std.specs.Str.{chars, is_utf8}
use Rattle.std.proofs.Common.{refl}
use Rattle.iv_gate.proofs.laws.examples.names_are_decided_where_the_log_is.Goals as goal

pub returns-clause-foreign : goal.returns-clause-foreign
unfolding is_utf8 chars lib.Utf8.encode
returns-clause-foreign c = refl

pub returns-clause-ahead : goal.returns-clause-ahead
unfolding is_utf8 chars lib.Utf8.encode
returns-clause-ahead c = refl

pub returns-clause-foreign_here : goal.returns-clause-foreign_here
unfolding is_utf8 chars lib.Utf8.encode
returns-clause-foreign_here c = refl

pub returns-clause-ahead_here : goal.returns-clause-ahead_here
unfolding is_utf8 chars lib.Utf8.encode
returns-clause-ahead_here c = refl
