use Rattle.std.proofs.Common.{◌≡◌, ◌+◌, drop, map}
use Rattle.iv_machine.specs.Refusing.{each_entry, entry_policies}
use Rattle.iv_database.specs.Database.{frame_of}
use Rattle.iv_database.specs.Placed.{entry_of}
use Rattle.iv_database.proofs.database.Database.check_policies.Given as goal

abbrev pub invariant-loop-place : goal.invariant-loop-place
invariant-loop-place l = each_entry (entry_policies (frame_of l.self) l.acting.0) 1 (map entry_of l.entries) ≡ each_entry (entry_policies (frame_of l.self) l.acting.0) (l.place + 1) (map entry_of (drop l.place l.entries))
