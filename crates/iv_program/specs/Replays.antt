-- How a replay ends, and what is written then.
use Rattle.std.specs.Prelude.{ℕ, Bool, true, false, Result, Ok, Err}
use Rattle.iv_machine.specs.State.{start}
use Rattle.iv_wire.specs.Endings.{Run, IsAnswered}
use Rattle.iv_lines.specs.declared.lines.End.{End}
use Rattle.iv_lines.specs.declared.lines.RunFault.TheVariants as run
use Rattle.iv_arguments.specs.declared.fault.Fault.{Fault}
use Rattle.iv_arguments.specs.declared.fault.Fault.TheVariants.{Read, Write, Random, Network, Memory}

-- the ending of a run from the machine's start with the row limit, with the same fault
abbrev pub Replays : (cap : ℕ) → Run → Result (Unit {0}) Fault → Type 0
Replays cap r (Ok _) = (end : End) × IsAnswered (start cap) r (Ok end)
Replays cap r (Err Read) = IsAnswered (start cap) r (Err run.Read)
Replays cap r (Err Write) = IsAnswered (start cap) r (Err run.Write)
Replays cap r (Err Random) = ⊥
Replays cap r (Err Network) = ⊥
Replays cap r (Err Memory) = IsAnswered (start cap) r (Err run.Memory)

abbrev pub is_read : Result (Unit {0}) Fault → Bool
is_read (Ok _) = false
is_read (Err Read) = true
is_read (Err Write) = false
is_read (Err Random) = false
is_read (Err Network) = false
is_read (Err Memory) = false

abbrev pub is_write : Result (Unit {0}) Fault → Bool
is_write (Ok _) = false
is_write (Err Read) = false
is_write (Err Write) = true
is_write (Err Random) = false
is_write (Err Network) = false
is_write (Err Memory) = false
