use Rattle.std.proofs.Common.{◌≡◌, map, drop}
use Rattle.std.specs.List.{list_all}
use Rattle.iv_machine.specs.Well.{is_well_command}
use Rattle.iv_command.specs.Views.{command_of}
use Rattle.tests_lines.proofs.commands.are_well.Given as goal

abbrev pub invariant-loop-command : goal.invariant-loop-command
invariant-loop-command l = list_all is_well_command (map command_of l.commands) ≡ list_all is_well_command (map command_of (drop l.command-index l.commands))
