use Rattle.tests_circuits.proofs.CircuitTables.{ready}
use Rattle.tests_circuits.proofs.refused.changed.Goals as goal

pub taken_in-outcome-requires : goal.taken_in-outcome-requires
taken_in-outcome-requires c =
    ready c.args.tables.now c.turn.new.tables c.args.circuit.now _ c.readers_follow_tables.ensures c.bags_have_lists.ensures.list
    c.requires.reader c.requires.sound c.turn.ensures.sound c.turn.ensures.heads c.in-Some.ensures.leads
