-- For private clauses: parts of lines that are put together.
use Rattle.std.specs.Prelude.{ℕ, List, ◌++◌, codes, decimal}
use Rattle.iv_machine.specs.declared.Cause.{Cause}
use Rattle.iv_machine.specs.declared.Cause.TheVariants as cause

-- the client's own number of a subscription, which ends a line
abbrev pub own_text : ℕ → List ℕ
own_text own = codes ",\"sub\":" ++ (decimal own ++ codes "}\n")

-- why a subscription has ended, up to its relation
abbrev pub cause_key : Cause → List ℕ
cause_key cause.Privilege = codes ",\"ended\":\"privilege\",\"on\":"
cause_key cause.Limit = codes ",\"ended\":\"limit\",\"on\":"
