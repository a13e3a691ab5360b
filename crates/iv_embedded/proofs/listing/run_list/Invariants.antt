use Rattle.std.proofs.Common.{◌≡◌, ◌++◌, map, true, false}
use Rattle.std.specs.List.{list_all}
use Rattle.std.specs.Vec.Iter.{into_iter_items}
use Rattle.iv_machine.specs.Machine.{run}
use Rattle.iv_machine.specs.State.{State}
use Rattle.iv_machine.specs.Well.{is_well_command}
use Rattle.iv_store.specs.Engine.{IsBehind}
use Rattle.iv_command.specs.Views.{command_of, line_of}
use Rattle.iv_embedded.proofs.CommandLists.{GoesBehind}
use Rattle.iv_embedded.proofs.listing.run_list.Given as goal

-- from each state behind the engine at the start: a state behind it now, from which what is left has the lines that are still to come;
-- and what is left goes behind what was answered
abbrev pub invariant-loop-command : goal.invariant-loop-command
invariant-loop-command l =
    (goal.iterator-loop-command).can_next l.command-iterator ×
    (goal.iterator-loop-command).is_finite l.command-iterator ×
    (list_all is_well_command (map command_of (into_iter_items l.command-iterator)) ≡ true) ×
    (l.engine.failed ≡ false) ×
    ((s : State) → IsBehind s l.fn.engine →
    (t : State) × IsBehind t l.engine
    × (map line_of l.lines.items ++ (run t (map command_of (into_iter_items l.command-iterator))).lines ≡ (run s (map command_of l.fn.commands.items)).lines)
    × ((run t (map command_of (into_iter_items l.command-iterator))).state ≡ (run s (map command_of l.fn.commands.items)).state)) ×
    GoesBehind l.fn.engine l.engine (map command_of l.fn.commands.items) (map command_of (into_iter_items l.command-iterator)) (map line_of l.lines.items)
