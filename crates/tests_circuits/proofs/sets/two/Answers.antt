use Rattle.std.proofs.Common.{map, w64}
use Rattle.std.proofs.lemmas.Int.{to_z-of_z}
use Rattle.iv_rows.specs.Cell.{num}
use Rattle.tests_circuits.proofs.Few.{IsFew-two_rows, SameZ-two_rows}
use Rattle.tests_circuits.proofs.sets.two.Goals as goal

pub returns-then-fill-2-clause-few : goal.returns-then-fill-2-clause-few
returns-then-fill-2-clause-few c =
    IsFew-two_rows (map num c.args.second.now) c.args.n (map num c.args.first.now) c.args.m c.fill-then-fill.new.zset
    (c.fill-then-fill.ensures.zset c.if-fill-2.true)
    (SameZ-two_rows (map num c.args.second.now) c.args.n _ (map num c.args.first.now) c.args.m _ c.fill-then-fill.new.zset c.fill.new.zset _ (to_z-of_z w64 c.args.n c.ranges.n) (to_z-of_z w64 c.args.m c.ranges.m) c.new-zset.ensures
    (c.fill.ensures.rows c.if-fill.true) (c.fill-then-fill.ensures.rows c.if-fill-2.true))
