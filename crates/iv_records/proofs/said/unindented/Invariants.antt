use Rattle.std.proofs.Common.{◌≡◌, drop}
use Rattle.iv_records.specs.Journal.{unindented}
use Rattle.iv_records.proofs.said.unindented.Given as goal

abbrev pub invariant-loop-at : goal.invariant-loop-at
invariant-loop-at l = unindented (drop l.at l.text) ≡ unindented l.text
