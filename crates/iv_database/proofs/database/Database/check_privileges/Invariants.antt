use Rattle.std.proofs.Common.{◌≡◌, ◌+◌, drop, map}
use Rattle.iv_machine.specs.Refusing.{each_entry, entry_privileges}
use Rattle.iv_database.specs.Database.{frame_of}
use Rattle.iv_database.specs.Placed.{entry_of}
use Rattle.iv_database.proofs.database.Database.check_privileges.Given as goal

abbrev pub invariant-loop-entry : goal.invariant-loop-entry
invariant-loop-entry l = each_entry (entry_privileges (frame_of l.self) l.acting.0) 1 (map entry_of l.entries) ≡ each_entry (entry_privileges (frame_of l.self) l.acting.0) (l.entry-index + 1) (map entry_of (drop l.entry-index l.entries))
