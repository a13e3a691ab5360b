use Rattle.std.proofs.Common.{ℕ, List, [], ◌∷◌, ◌++◌, Option}
use Rattle.std.specs.List.{AllByRecursion}
use Rattle.std.specs.Vec.Iter.{into_iter_items}
use Rattle.iv_machine.specs.State.{State}
use Rattle.iv_records.specs.Journal.{Entry, IsRequest}
use Rattle.iv_gate.specs.Gate.{Gate}
use Rattle.iv_gateway.specs.Replays.{behind, part}
use Rattle.iv_gateway.specs.Views.{IsAlive}
use Rattle.iv_gateway.proofs.JournalReplays.{GoesOn}
use Rattle.iv_gateway.proofs.gateway.Gateway.replay_requests.Given as goal

abbrev pub invariant-loop-request : goal.invariant-loop-request
invariant-loop-request l =
    (goal.iterator-loop-request).can_next l.request-iterator ×
    (goal.iterator-loop-request).is_finite l.request-iterator ×
    AllByRecursion IsRequest (into_iter_items l.request-iterator) ×
    ((g : Gate) (s : State) (es : List Entry) (p : Option ℕ) → IsAlive (behind g s (es ++ part [] [] p ∷ [])) l.fn.self
    → GoesOn g s es p l.fn.requests.items (into_iter_items l.request-iterator) l.self)
