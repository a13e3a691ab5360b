use Rattle.std.proofs.Common.{◌≡◌, take}
use Rattle.std.specs.Prelude.{filter}
use Rattle.iv_host.specs.Admins.{is_admin}
use Rattle.iv_host.proofs.admins.Admins.among.Given as goal

abbrev pub invariant-loop-token : goal.invariant-loop-token
invariant-loop-token l = l.admins.items ≡ filter is_admin (take l.token-index l.tokens)
