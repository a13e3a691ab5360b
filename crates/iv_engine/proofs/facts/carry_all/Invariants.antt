use Rattle.std.proofs.Common.{◌≡◌, ◌+◌, length, true}
use Rattle.std.specs.List.{list_all}
use Rattle.std.specs.Vec.Iter.{into_iter_items}
use Rattle.iv_machine.specs.State.{State}
use Rattle.iv_steps.specs.Steps.{is_well_fact}
use Rattle.iv_store.specs.Answering.{seen}
use Rattle.iv_store.specs.Engine.{IsBehind}
use Rattle.iv_engine.specs.Carried.{IsStillEmpty}
use Rattle.iv_engine.specs.Stepped.{AreWrites}
use Rattle.iv_engine.specs.Summed.{AreSumsOf}
use Rattle.iv_engine.proofs.Carried.{GoesOn}
use Rattle.iv_engine.proofs.facts.carry_all.Given as goal

-- from each state behind the store at the start: a state behind it now, from which the facts that are left come out as all do; the sums are those since then, and of writes alone if all are
abbrev pub invariant-loop-fact : goal.invariant-loop-fact
invariant-loop-fact l =
    (goal.iterator-loop-fact).can_next l.fact-iterator ×
    (goal.iterator-loop-fact).is_finite l.fact-iterator ×
    (list_all is_well_fact (into_iter_items l.fact-iterator) ≡ true) ×
    (l.place + length (into_iter_items l.fact-iterator) ≡ length l.fn.facts.items) ×
    IsStillEmpty l.store ×
    ((s : State) → IsBehind s (seen l.fn.store) → GoesOn s l.fn.facts.items l.place (into_iter_items l.fact-iterator) l.store) ×
    AreSumsOf l.fn.store l.sums l.store ×
    (AreWrites l.fn.facts.items → (l.sums.others ≡ l.fn.sums.others) × AreWrites (into_iter_items l.fact-iterator))
