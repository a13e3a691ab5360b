use Rattle.std.proofs.Common.{arith}
use Rattle.std.proofs.lemmas.Str.Parse.{digit_at}
use Rattle.iv_request.proofs.Digits.{lt-digits_value, digits_value-take_next}
use Rattle.iv_request.proofs.documents.few_digits.Goals as goal

pub returns-then-digit-gt9-clause-number : goal.returns-then-digit-gt9-clause-number
returns-then-digit-gt9-clause-number c h = omega (arith, digit_at c.args.bytes.now c.loop-byte.byte-index h.0.1 c.loop-byte-test.true)

pub overflow_mul-number : goal.overflow_mul-number
overflow_mul-number c = omega (arith, c.loop-byte.invariant.0, lt-digits_value c.args.bytes.now c.loop-byte.byte-index 17 c.loop-byte.invariant.1 (omega arith))

pub overflow_add-number : goal.overflow_add-number
overflow_add-number c = omega (arith, c.loop-byte.invariant.0, lt-digits_value c.args.bytes.now c.loop-byte.byte-index 17 c.loop-byte.invariant.1 (omega arith))

pub loop-byte-preserved : goal.loop-byte-preserved
loop-byte-preserved c =
    let step = digits_value-take_next c.args.bytes.now c.loop-byte.byte-index c.loop-byte-test.true c.loop-byte.invariant.1 c.if-digit-gt9.false (omega (arith, c.type_inv.bytes c.loop-byte.byte-index)) in
    (omega (arith, c.loop-byte.invariant.0, step.0), step.1)

pub returns-clause-below : goal.returns-clause-below
returns-clause-below c =
    omega (arith, c.loop-byte.invariant.0, lt-digits_value c.args.bytes.now c.loop-byte.byte-index 18 c.loop-byte.invariant.1 (omega arith))
