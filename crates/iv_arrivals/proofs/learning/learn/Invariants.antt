use Rattle.std.proofs.Common.{◌≡◌, ◌+◌, length}
use Rattle.std.specs.Vec.Iter.{into_iter_items}
use Rattle.iv_records.specs.Names.{limits}
use Rattle.iv_once.specs.Views.{names_of}
use Rattle.iv_gate.specs.Arriving.{first_known}
use Rattle.iv_arrivals.specs.Entering.{all_pushed}
use Rattle.iv_arrivals.proofs.learning.learn.Given as goal

-- what is left is learned as all would be, and counted on
abbrev pub invariant-loop-name : goal.invariant-loop-name
invariant-loop-name l =
    (goal.iterator-loop-name).can_next l.name-iterator ×
    (goal.iterator-loop-name).is_finite l.name-iterator ×
    (l.place + length (into_iter_items l.name-iterator) ≡ length l.fn.names.items) ×
    ((names_of l.fn.known).limits ≡ limits → ((names_of l.known).limits ≡ limits)
    × (first_known 1 l.fn.names.items (names_of l.fn.known).known ≡ first_known (l.place + 1) (into_iter_items l.name-iterator) (names_of l.known).known)) ×
    (all_pushed (names_of l.fn.known) l.fn.names.items ≡ all_pushed (names_of l.known) (into_iter_items l.name-iterator))
