use Rattle.std.proofs.Common.{ℕ, List, [], ◌∷◌, ◌++◌, Option}
use Rattle.std.specs.Vec.Iter.{into_iter_items}
use Rattle.iv_machine.specs.State.{State}
use Rattle.iv_records.specs.Journal.{Entry, Request}
use Rattle.iv_gate.specs.Gate.{Gate}
use Rattle.iv_gateway.specs.Replays.{behind, part}
use Rattle.iv_gateway.specs.Views.{IsAlive}
use Rattle.iv_gateway.proofs.JournalReplays.{AreLearning}
use Rattle.iv_gateway.proofs.gateway.Gateway.replay_names.Given as goal

abbrev pub invariant-loop-name : goal.invariant-loop-name
invariant-loop-name l =
    (goal.iterator-loop-name).can_next l.name-iterator ×
    (goal.iterator-loop-name).is_finite l.name-iterator ×
    ((g : Gate) (s : State) (es : List Entry) (qs : List Request) (p : Option ℕ) → IsAlive (behind g s (es ++ part qs [] p ∷ [])) l.fn.self
    → AreLearning g s es qs p l.fn.names.items (into_iter_items l.name-iterator) l.self)
