-- Why a request is not done: what a test says, and the faults of a text.
use Rattle.std.specs.Prelude.{◌≡◌, Option, None, Some, Result, Ok, Err}
use Rattle.iv_query.specs.declared.fault.QueryFault.{QueryFault}
use Rattle.iv_query.specs.declared.fault.QueryFault.TheVariants as reading
use Rattle.iv_bind.specs.declared.fault.BindFault.{BindFault}
use Rattle.iv_bind.specs.declared.fault.BindFault.TheVariants as binding
use Rattle.iv_machine.specs.Act as machine
use Rattle.iv_command.specs.Views.{refusal_of}
use Rattle.iv_command.specs.declared.command.Reason.TheVariants.{Reading, Binding}
use Rattle.iv_command.specs.declared.command.Refusal.TheVariants.{BadQuery}
use Rattle.iv_command.specs.declared.stop.Stop.{Stop}
use Rattle.iv_command.specs.declared.stop.Stop.TheVariants.{Refused, Memory}

abbrev pub read_stop : QueryFault → Stop
read_stop (reading.At place why) = Refused (BadQuery place (Reading why))
read_stop reading.Memory = Memory

abbrev pub bind_stop : BindFault → Stop
bind_stop (binding.At place why) = Refused (BadQuery place (Binding why))
bind_stop binding.Memory = Memory

-- a test passes, or is refused as the machine says; nothing is said if memory runs out
abbrev pub IsTested : Option machine.Refusal → Result Unit Stop → Type 0
IsTested o (Ok u) = o ≡ None
IsTested o (Err (Refused r)) = o ≡ Some (refusal_of r)
IsTested o (Err Memory) = Unit {0}
