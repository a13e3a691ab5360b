use Rattle.std.proofs.Common.{refl}
use Rattle.iv_circuit.specs.Deltas.{change_in}
use Rattle.tests_circuits.proofs.CircuitTables.{LeadTo-HasMore}
use Rattle.tests_circuits.proofs.worlds.enter.Goals as goal

pub returns-in-Ok-add-clause-leads : goal.returns-in-Ok-add-clause-leads
returns-in-Ok-add-clause-leads c = λ t base leads.
    LeadTo-HasMore base c.args.tables.now c.put.new.tables (change_in c.args.deltas.now) (change_in c.add.new.self) _ _ _ (c.if-not-put.ensures.rows refl) (rw c.in-Ok-copy.ensures at c.in-Ok-add.ensures.rows) c.add.ensures.others leads
