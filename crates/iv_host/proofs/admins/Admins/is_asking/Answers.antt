use Rattle.std.proofs.Common.{◌∙◌, ap}
use Rattle.iv_host.specs.Admins.{opens_by}
use Rattle.iv_host.proofs.admins.Admins.is_asking.Goals as goal

pub returns : goal.returns
returns c = record { asks = λ h rest reads few. c.opens_by.ensures ∙ ap (opens_by c.args.self.now.tokens.items) (c.field_of.ensures.field h rest reads few) }
