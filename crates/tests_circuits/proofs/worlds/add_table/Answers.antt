use Rattle.std.proofs.Common.{ap, subst, sym, List}
use Rattle.iv_algebra.specs.Contents.{rows_or_none}
use Rattle.iv_algebra.specs.declared.tables.Table.{Table}
use Rattle.tests_circuits.specs.Worlds.{AreSound}
use Rattle.tests_circuits.proofs.CircuitTables.{IsSound-no_rows, AreSound-one_changed}
use Rattle.tests_circuits.proofs.worlds.add_table.Goals as goal

pub returns-in-Ok-add_table : goal.returns-in-Ok-add_table
returns-in-Ok-add_table c =
    AreSound-one_changed c.args.tables.now c.add_table.new.self c.args.table.0 c.requires
    (IsSound-no_rows c.add_table.new.self c.args.table.0 (ap rows_or_none c.in-Ok-add_table.ensures.table)) c.in-Ok-add_table.ensures.others

pub returns-in-Err : goal.returns-in-Err
returns-in-Err c = subst (λ (ts : List Table). AreSound ts) (sym c.in-Err.ensures.unchanged) c.requires
