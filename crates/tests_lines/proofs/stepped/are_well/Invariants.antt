use Rattle.std.proofs.Common.{◌≡◌, drop}
use Rattle.std.specs.List.{list_all}
use Rattle.iv_steps.specs.Steps.{is_well_fact}
use Rattle.tests_lines.proofs.stepped.are_well.Given as goal

abbrev pub invariant-loop-fact : goal.invariant-loop-fact
invariant-loop-fact l = list_all is_well_fact l.facts ≡ list_all is_well_fact (drop l.fact-index l.facts)
