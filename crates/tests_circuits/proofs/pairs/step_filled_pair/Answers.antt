use Rattle.std.proofs.Common.{◌∙◌, [], ◌∷◌, ap, map, sym, w64}
use Rattle.std.proofs.lemmas.Int.{to_z-of_z}
use Rattle.iv_rows.specs.Cell.{num}
use Rattle.iv_zset.specs.Weights.{weight_of}
use Rattle.tests_circuits.proofs.Few.{SameZ-one_row, OfRows-SameZ, OfRows-cons, OfRows-none, AllInRange-sum, IsBag-SameZ, IsBag-cons, IsBag-none}
use Rattle.tests_circuits.proofs.pairs.step_filled_pair.Goals as goal

pub step_bilinear-requires-clause-left : goal.step_bilinear-requires-clause-left
step_bilinear-requires-clause-left g c =
    OfRows-SameZ (g.B.Bilinear.takes_left c.args.bilinear.now) c.fill.new.zset ((map num c.args.rows.left.now, c.args.a) ∷ [])
    (SameZ-one_row (map num c.args.rows.left.now) c.args.a _ c.fill.new.zset _ (to_z-of_z w64 c.args.a c.ranges.a) c.requires.empty_left (c.fill.ensures.rows c.if-fill.true))
    (OfRows-cons (g.B.Bilinear.takes_left c.args.bilinear.now) (map num c.args.rows.left.now) c.args.a [] c.requires.left (OfRows-none (g.B.Bilinear.takes_left c.args.bilinear.now)))

pub step_bilinear-requires-clause-left_change : goal.step_bilinear-requires-clause-left_change
step_bilinear-requires-clause-left_change g c =
    OfRows-SameZ (g.B.Bilinear.takes_left c.args.bilinear.now) c.fill-then-fill-3.new.zset ((map num c.args.rows.left.now, c.args.da) ∷ [])
    (SameZ-one_row (map num c.args.rows.left.now) c.args.da _ c.fill-then-fill-3.new.zset _ (to_z-of_z w64 c.args.da c.ranges.da) c.requires.empty_left_change (c.fill-then-fill-3.ensures.rows c.if-fill-4.true))
    (OfRows-cons (g.B.Bilinear.takes_left c.args.bilinear.now) (map num c.args.rows.left.now) c.args.da [] c.requires.left (OfRows-none (g.B.Bilinear.takes_left c.args.bilinear.now)))

pub step_bilinear-requires-clause-right : goal.step_bilinear-requires-clause-right
step_bilinear-requires-clause-right g c =
    OfRows-SameZ (g.B.Bilinear.takes_right c.args.bilinear.now) c.fill-then-fill.new.zset ((map num c.args.rows.right.now, c.args.b) ∷ [])
    (SameZ-one_row (map num c.args.rows.right.now) c.args.b _ c.fill-then-fill.new.zset _ (to_z-of_z w64 c.args.b c.ranges.b) c.requires.empty_right (c.fill-then-fill.ensures.rows c.if-fill-2.true))
    (OfRows-cons (g.B.Bilinear.takes_right c.args.bilinear.now) (map num c.args.rows.right.now) c.args.b [] c.requires.right (OfRows-none (g.B.Bilinear.takes_right c.args.bilinear.now)))

pub step_bilinear-requires-clause-right_change : goal.step_bilinear-requires-clause-right_change
step_bilinear-requires-clause-right_change g c =
    OfRows-SameZ (g.B.Bilinear.takes_right c.args.bilinear.now) c.fill-then-fill-4.new.zset ((map num c.args.rows.right.now, c.args.db) ∷ [])
    (SameZ-one_row (map num c.args.rows.right.now) c.args.db _ c.fill-then-fill-4.new.zset _ (to_z-of_z w64 c.args.db c.ranges.db) c.requires.empty_right_change (c.fill-then-fill-4.ensures.rows c.if-fill-5.true))
    (OfRows-cons (g.B.Bilinear.takes_right c.args.bilinear.now) (map num c.args.rows.right.now) c.args.db [] c.requires.right (OfRows-none (g.B.Bilinear.takes_right c.args.bilinear.now)))

pub step_bilinear-requires-clause-new_left : goal.step_bilinear-requires-clause-new_left
step_bilinear-requires-clause-new_left g c =
    AllInRange-sum (map num c.args.rows.left.now) c.args.da c.args.a c.fill-then-fill-3.new.zset c.fill.new.zset c.requires.new_left
    (SameZ-one_row (map num c.args.rows.left.now) c.args.da _ c.fill-then-fill-3.new.zset _ (to_z-of_z w64 c.args.da c.ranges.da) c.requires.empty_left_change (c.fill-then-fill-3.ensures.rows c.if-fill-4.true))
    (SameZ-one_row (map num c.args.rows.left.now) c.args.a _ c.fill.new.zset _ (to_z-of_z w64 c.args.a c.ranges.a) c.requires.empty_left (c.fill.ensures.rows c.if-fill.true))

pub step_bilinear-requires-clause-bag : goal.step_bilinear-requires-clause-bag
step_bilinear-requires-clause-bag g c =
    IsBag-SameZ c.fill-then-fill-2.new.zset ((map num c.args.rows.both.now, c.args.weight) ∷ [])
    (SameZ-one_row (map num c.args.rows.both.now) c.args.weight _ c.fill-then-fill-2.new.zset _ (to_z-of_z w64 c.args.weight c.ranges.weight) c.requires.empty_out (c.fill-then-fill-2.ensures.rows c.if-fill-3.true))
    (IsBag-cons (map num c.args.rows.both.now) c.args.weight [] c.requires.bag IsBag-none)

pub step_bilinear-requires-clause-old : goal.step_bilinear-requires-clause-old
step_bilinear-requires-clause-old g c = λ q.
    SameZ-one_row (map num c.args.rows.both.now) c.args.weight _ c.fill-then-fill-2.new.zset _ (to_z-of_z w64 c.args.weight c.ranges.weight) c.requires.empty_out (c.fill-then-fill-2.ensures.rows c.if-fill-3.true) q
    ∙ ap (λ w. weight_of ((map num c.args.rows.both.now, w) ∷ []) q) c.requires.old
    ∙ sym (c.requires.pair c.args.a c.args.b q)
    ∙ sym (g.met.B.Bilinear.same c.args.bilinear.now c.fill.new.zset ((map num c.args.rows.left.now, c.args.a) ∷ []) c.fill-then-fill.new.zset ((map num c.args.rows.right.now, c.args.b) ∷ [])
    (SameZ-one_row (map num c.args.rows.left.now) c.args.a _ c.fill.new.zset _ (to_z-of_z w64 c.args.a c.ranges.a) c.requires.empty_left (c.fill.ensures.rows c.if-fill.true))
    (SameZ-one_row (map num c.args.rows.right.now) c.args.b _ c.fill-then-fill.new.zset _ (to_z-of_z w64 c.args.b c.ranges.b) c.requires.empty_right (c.fill-then-fill.ensures.rows c.if-fill-2.true)) q)
