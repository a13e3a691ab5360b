use Rattle.std.proofs.Common.{◌++◌, true, w64}
use Rattle.std.proofs.lemmas.Int.{to_z-of_z}
use Rattle.tests_circuits.specs.Lines.{cells}
use Rattle.tests_circuits.proofs.Few.{SameZ-one_row, SameZ-two_rows, weight_of-replaced, IsBag-replaced, AllInRange-replaced}
use Rattle.tests_circuits.proofs.pairs.step_filled_groups.Goals as goal

pub step_group-requires-clause-new_bag : goal.step_group-requires-clause-new_bag
step_group-requires-clause-new_bag c =
    let a = SameZ-one_row (cells true c.args.gone.now) c.args.x _ c.fill.new.zset _ (to_z-of_z w64 c.args.x c.ranges.x) c.requires.empty (c.fill.ensures.rows c.if-fill.true) in
    let d = SameZ-two_rows (cells true c.args.come.now) c.args.y _ (cells true c.args.gone.now) c.args.dx _ c.fill-then-fill-2.new.zset c.fill-then-fill.new.zset _ (to_z-of_z w64 c.args.y c.ranges.y) (to_z-of_z w64 c.args.dx c.ranges.dx) c.requires.empty_change (c.fill-then-fill.ensures.rows c.if-fill-2.true) (c.fill-then-fill-2.ensures.rows c.if-fill-3.true) in
    IsBag-replaced (cells true c.args.come.now) c.args.y (c.fill-then-fill-2.new.zset ++ c.fill.new.zset) c.requires.bag
    (weight_of-replaced (cells true c.args.gone.now) (cells true c.args.come.now) c.args.x c.args.dx c.args.y c.fill.new.zset c.fill-then-fill-2.new.zset c.requires.gone a d)

pub step_group-requires-clause-new_range : goal.step_group-requires-clause-new_range
step_group-requires-clause-new_range c =
    let a = SameZ-one_row (cells true c.args.gone.now) c.args.x _ c.fill.new.zset _ (to_z-of_z w64 c.args.x c.ranges.x) c.requires.empty (c.fill.ensures.rows c.if-fill.true) in
    let d = SameZ-two_rows (cells true c.args.come.now) c.args.y _ (cells true c.args.gone.now) c.args.dx _ c.fill-then-fill-2.new.zset c.fill-then-fill.new.zset _ (to_z-of_z w64 c.args.y c.ranges.y) (to_z-of_z w64 c.args.dx c.ranges.dx) c.requires.empty_change (c.fill-then-fill.ensures.rows c.if-fill-2.true) (c.fill-then-fill-2.ensures.rows c.if-fill-3.true) in
    AllInRange-replaced (cells true c.args.come.now) c.args.y (c.fill-then-fill-2.new.zset ++ c.fill.new.zset) c.requires.come
    (weight_of-replaced (cells true c.args.gone.now) (cells true c.args.come.now) c.args.x c.args.dx c.args.y c.fill.new.zset c.fill-then-fill-2.new.zset c.requires.gone a d)
