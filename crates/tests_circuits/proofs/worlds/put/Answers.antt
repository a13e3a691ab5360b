use Rattle.std.proofs.Common.{◌∙◌, ◌∷◌, w64, rules, subst, sym, List}
use mir.Val.{SFits}
use Rattle.std.proofs.lemmas.Int.{to_z-of_z}
use Rattle.iv_zset.specs.Weights.{weight_of}
use Rattle.iv_algebra.specs.Contents.{rows_of}
use Rattle.iv_algebra.specs.declared.tables.Table.{Table}
use Rattle.tests_circuits.specs.Worlds.{AreSound}
use Rattle.tests_circuits.proofs.CircuitTables.{HasMore-SameZ, AreSound-one_changed}
use Rattle.tests_circuits.proofs.worlds.put.Goals as goal

pub returns-in-Ok-clause-sound : goal.returns-in-Ok-clause-sound
returns-in-Ok-clause-sound c =
    AreSound-one_changed c.args.tables.now c.change.new.self c.args.table.0 c.requires
    (record { bag = rw c.table-in-Ok.ensures.rows at c.table-in-Ok.ensures.bag; kinds = rw c.table-in-Ok.ensures.rows at c.table-in-Ok.ensures.kinds }) c.change.ensures.others

pub returns-in-Ok-clause-rows : goal.returns-in-Ok-clause-rows
returns-in-Ok-clause-rows c = λ t.
    let f : SFits w64 c.args.copies = search rules in
    HasMore-SameZ c.args.tables.now c.change.new.self c.args.table.0 c.args.row c.args.copies
    (λ q. c.in-Ok.ensures.rows q ∙ (λ i. weight_of ((c.args.row, to_z-of_z w64 c.args.copies f i) ∷ rows_of c.args.tables.now c.args.table.0) q)) c.change.ensures.others

pub returns-clause-sound : goal.returns-clause-sound
returns-clause-sound c = subst (λ (ts : List Table). AreSound ts) (sym c.in-Err.ensures.unchanged) c.requires
