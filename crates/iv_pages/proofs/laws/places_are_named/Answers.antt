use Rattle.std.proofs.Common.{refl}
use Rattle.percent_encoding.specs.Percent.{percent_decode}
use Rattle.iv_pages.proofs.laws.places_are_named.Goals as goal

pub returns-clause-folder : goal.returns-clause-folder
unfolding percent_decode
returns-clause-folder c = refl

pub returns-clause-dots : goal.returns-clause-dots
unfolding percent_decode
returns-clause-dots c = refl

pub returns-clause-once : goal.returns-clause-once
unfolding percent_decode
returns-clause-once c = refl

pub returns-clause-slash : goal.returns-clause-slash
unfolding percent_decode
returns-clause-slash c = refl

pub returns-clause-hidden : goal.returns-clause-hidden
unfolding percent_decode
returns-clause-hidden c = refl

pub returns-clause-kind : goal.returns-clause-kind
returns-clause-kind c = refl

pub returns-clause-bare : goal.returns-clause-bare
returns-clause-bare c = refl
