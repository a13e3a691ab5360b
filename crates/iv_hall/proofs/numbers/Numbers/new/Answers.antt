use Rattle.std.proofs.Common.{◌∙◌, ◌<◌, ap, arith, get_or, sym}
use Rattle.iv_hall.proofs.numbers.Numbers.new.Goals as goal

pub invariant_of-result : goal.invariant_of-result
invariant_of-result c =
    let inv = c.loop-number.invariant in (
      omega arith,
      record {
        size = inv.places_long ∙ sym inv.order_long;
        placed = λ m h. let l : m < c.loop-number.number = omega (arith, h, inv.order_long) in let p = inv.places m l in
            (omega (arith, h, p), ap (λ z. get_or c.loop-number.order.items z 0) p ∙ inv.order m l);
        numbered = λ i h. let l : i < c.loop-number.number = omega (arith, h, inv.order_long) in let o = inv.order i l in
            (omega (arith, h, o), ap (λ z. get_or c.loop-number.places.items z 0) o ∙ inv.places i l);
      },
    )
