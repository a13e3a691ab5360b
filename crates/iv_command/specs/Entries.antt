-- What an entry of a write is to the machine.
use Rattle.std.specs.Prelude.{ℕ, ℤ, pos, negsuc}
use Rattle.iv_machine.specs.Act as machine
use Rattle.iv_command.specs.declared.command.Op.{Op}
use Rattle.iv_command.specs.declared.command.Op.TheVariants.{Insert, Delete, Update}

-- a number of copies, and 0 for a number below 0
abbrev pub copies_of : ℤ → ℕ
copies_of (pos n) = n
copies_of (negsuc n) = 0

abbrev pub op_of : Op → machine.Op
op_of (Insert row) = machine.insert row
op_of (Delete row) = machine.delete row
op_of (Update old new) = machine.update old new
