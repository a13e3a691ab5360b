-- For contracts of the code: what the claims that a secret grants are to the definitions.
use Rattle.std.specs.Prelude.{Result, Ok, Err}
use Rattle.iv_jwt.specs.declared.tokens.Claims.{Claims}
use Rattle.iv_jwt.specs.declared.tokens.Fault.{Fault}
use Rattle.iv_jwt.specs.Tokens.{Granted}
use Rattle.iv_jwt.specs.Seen.{granted_by}

abbrev pub granted_in : Result Claims Fault → Result Granted Fault
granted_in (Ok c) = Ok (granted_by c)
granted_in (Err why) = Err why
