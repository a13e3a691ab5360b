use Rattle.std.specs.Str.{chars, is_utf8}
use Rattle.std.proofs.Common.{refl}
use Rattle.json.specs.Print.{escape_byte}
use Rattle.iv_gate.proofs.laws.examples.leaders_decide_by_steps.Goals as goal

pub returns-clause-done : goal.returns-clause-done
unfolding is_utf8 chars lib.Utf8.encode
returns-clause-done c = refl

pub returns-clause-steps : goal.returns-clause-steps
unfolding is_utf8 chars escape_byte lib.Utf8.encode
returns-clause-steps c = refl

pub returns-clause-position : goal.returns-clause-position
unfolding is_utf8 chars escape_byte lib.Utf8.encode
returns-clause-position c = refl

pub returns-clause-unnamed : goal.returns-clause-unnamed
unfolding is_utf8 chars lib.Utf8.encode
returns-clause-unnamed c = refl

pub returns-clause-foreign : goal.returns-clause-foreign
unfolding is_utf8 chars lib.Utf8.encode
returns-clause-foreign c = refl

pub returns-clause-ahead : goal.returns-clause-ahead
unfolding is_utf8 chars lib.Utf8.encode
returns-clause-ahead c = refl

pub returns-clause-brought : goal.returns-clause-brought
returns-clause-brought c = refl
