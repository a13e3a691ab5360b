use Rattle.std.proofs.Common.{◌≡◌, ◌+◌, ◌++◌, length, map}
use Rattle.std.specs.List.{AllByRecursion}
use Rattle.std.specs.Vec.Iter.{into_iter_items}
use Rattle.iv_machine.specs.Refusing.{each_entry, entry_shape}
use Rattle.iv_database.specs.Database.{frame_of}
use Rattle.iv_database.specs.Placed.{IsPlaced, entry_of}
use Rattle.iv_database.proofs.database.Database.placed.Given as goal

-- the placed and those that are left are all entries
abbrev pub invariant-loop-entry : goal.invariant-loop-entry
invariant-loop-entry l =
    (goal.iterator-loop-entry).can_next l.entry-iterator ×
    (goal.iterator-loop-entry).is_finite l.entry-iterator ×
    (each_entry (entry_shape (frame_of l.self)) 1 l.fn.entries.items ≡ each_entry (entry_shape (frame_of l.self)) (length l.placed.items + 1) (into_iter_items l.entry-iterator)) ×
    (l.fn.entries.items ≡ map entry_of l.placed.items ++ into_iter_items l.entry-iterator) ×
    AllByRecursion (IsPlaced (frame_of l.self)) l.placed.items
