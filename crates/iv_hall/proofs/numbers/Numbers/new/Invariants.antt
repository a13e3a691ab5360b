use Rattle.std.proofs.Common.{◌≡◌, ◌<◌, ℕ, length, get_or}
use Rattle.iv_hall.proofs.numbers.Numbers.new.Given as goal

abbrev pub invariant-loop-number : goal.invariant-loop-number
invariant-loop-number l = record {
  order_long : length l.order.items ≡ l.number;
  places_long : length l.places.items ≡ l.number;
  order : (i : ℕ) → i < l.number → get_or l.order.items i 0 ≡ i;
  places : (i : ℕ) → i < l.number → get_or l.places.items i 0 ≡ i;
}
