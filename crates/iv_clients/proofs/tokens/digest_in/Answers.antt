use Rattle.std.proofs.Common.{ap, sym}
use Rattle.iv_records.specs.Cuts.{decoded}
use Rattle.iv_clients.proofs.TokenParts.{decoded-not_OutOfMemory}
use Rattle.iv_clients.proofs.tokens.digest_in.Goals as goal

pub returns-in-Ok : goal.returns-in-Ok
returns-in-Ok c = sym (ap decoded c.in-Ok.ensures.ok)

pub returns-in_default : goal.returns-in_default
returns-in_default c = decoded-not_OutOfMemory _ _ c.in_default.not-OutOfMemory c.in-Err.ensures.err
