-- The exit statuses of the program's faults.
use Rattle.std.specs.Prelude.{ℕ}
use Rattle.iv_arguments.specs.declared.fault.Fault.{Fault}
use Rattle.iv_arguments.specs.declared.fault.Fault.TheVariants.{Read, Write, Random, Network, Memory}

-- 2 if standard input, standard output, the network or the source of random bytes failed, 3 if memory ran out
abbrev pub status_of : Fault → ℕ
status_of Read = 2
status_of Write = 2
status_of Random = 2
status_of Network = 2
status_of Memory = 3
