-- For contracts of the code: what it makes of a token.
use Rattle.std.specs.Prelude.{◌≡◌, ◌⊎◌, Result, Ok, Err, string_bytes}
use Rattle.iv_jwt.specs.declared.tokens.Claimed as code
use Rattle.iv_jwt.specs.declared.tokens.Claims.{Claims}
use Rattle.iv_jwt.specs.declared.tokens.Fault.{Fault}
use Rattle.iv_jwt.specs.declared.tokens.Fault.TheVariants as fault
use Rattle.iv_jwt.specs.Tokens.{Claimed, Granted}

abbrev pub granted_by : Claims → Granted
granted_by c = record { role = string_bytes c.role; subject = string_bytes c.subject; expires = c.expires }

-- the answer is this one, or memory was refused
abbrev pub IsAnswer : Result Claims Fault → Result Granted Fault → Type 0
IsAnswer (Ok c) r = r ≡ Ok (granted_by c)
IsAnswer (Err why) r = (why ≡ fault.Memory) ⊎ (r ≡ Err why)

-- what claims say, by their texts where they are
abbrev pub claimed_by : code.Claimed → Claimed
claimed_by c = record { granted = record { role = c.role.now; subject = c.subject.now; expires = c.expires }; begins = c.begins }
