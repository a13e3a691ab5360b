use Rattle.std.proofs.Common.{◌≡◌, take, true}
use Rattle.std.specs.List.{list_all}
use Rattle.iv_arrivals.specs.Reads.{is_answer}
use Rattle.iv_arrivals.proofs.steps.are_answers.Given as goal

abbrev pub invariant-loop-name : goal.invariant-loop-name
invariant-loop-name l = list_all is_answer (take l.name-index l.names) ≡ true
