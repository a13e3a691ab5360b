use Rattle.std.proofs.Common.{refl}
use Rattle.std.specs.Fmt.{digits}
use Rattle.iv_pages.proofs.laws.answers_are_worked.Goals as goal

pub returns-clause-known : goal.returns-clause-known
returns-clause-known c = refl

pub returns-clause-weak : goal.returns-clause-weak
returns-clause-weak c = refl

pub returns-clause-other : goal.returns-clause-other
returns-clause-other c = refl

pub returns-clause-escaped : goal.returns-clause-escaped
unfolding digits
returns-clause-escaped c = refl
