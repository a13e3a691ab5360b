use Rattle.std.specs.Str.{chars, is_utf8}
use Rattle.std.proofs.Common.{refl}
use Rattle.iv_gate.proofs.laws.examples.names_are_answered_once.Goals as goal

pub returns-clause-first : goal.returns-clause-first
unfolding is_utf8 chars lib.Utf8.encode
returns-clause-first c = refl

pub returns-clause-again : goal.returns-clause-again
unfolding is_utf8 chars lib.Utf8.encode
returns-clause-again c = refl

pub returns-clause-another : goal.returns-clause-another
unfolding is_utf8 chars lib.Utf8.encode
returns-clause-another c = refl

pub returns-clause-place : goal.returns-clause-place
unfolding is_utf8 chars lib.Utf8.encode
returns-clause-place c = refl
