use Rattle.std.proofs.Common.{arith, rules, ◌≡◌, ◌∙◌, length}
use Rattle.iv_jwt.proofs.Masks.{masked-whole, length-set_byte, masked-take_next}
use Rattle.iv_jwt.proofs.hashing.masked.Goals as goal

pub loop-at-preserved : goal.loop-at-preserved
loop-at-preserved c =
    let whole : length c.args.block.now ≡ 64 = search rules in (
      length-set_byte c.loop-at.out c.loop-at.at _ ∙ c.loop-at.invariant.0,
      masked-take_next c.args.mask c.loop-at.out c.args.block.now c.loop-at.at (omega (arith, whole, c.loop-at.invariant.0)) (omega (arith, whole)) c.loop-at.invariant.1,
    )

pub returns : goal.returns
returns c =
    let whole : length c.args.block.now ≡ 64 = search rules in
    masked-whole c.args.mask c.loop-at.out c.args.block.now c.loop-at.at (omega (arith, whole, c.loop-at.invariant.0)) (omega (arith, whole)) c.loop-at.invariant.1
