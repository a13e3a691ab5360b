use Rattle.iv_circuit.specs.Deltas.{change_in}
use Rattle.tests_circuits.specs.Worlds.{AreSound, LeadTo, SameHeads}
use Rattle.tests_circuits.proofs.worlds.turn.Given as goal

abbrev pub invariant-loop-entry : goal.invariant-loop-entry
invariant-loop-entry l = record {
  sound : AreSound l.tables;
  heads : SameHeads l.fn.tables l.tables;
  leads : LeadTo l.fn.tables l.tables (change_in l.deltas);
}
