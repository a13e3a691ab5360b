use Rattle.std.proofs.Common.{◌∙◌, ap}
use Rattle.std.specs.Prelude.{option_and_then}
use Rattle.iv_host.specs.Admins.{presented}
use Rattle.iv_host.proofs.admins.presented_in.Goals as goal

pub returns : goal.returns
returns c = record { presents = λ h rest reads few. c.presented_by.ensures ∙ ap (option_and_then presented) (c.field_of.ensures.field h rest reads few) }
