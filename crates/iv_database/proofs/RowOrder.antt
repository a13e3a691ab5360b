-- Rows that rise: one more at its place, and the rows of a list that go into a tree.
use Rattle.std.proofs.Common.{◌≡◌, ℕ, ◌-◌, ◌^◌, ℤ, pos, negsuc, ◌+ℤ◌, List, [], ◌∷◌, ◌++◌, refl, sym, ap, subst, ◌∙◌, arith}
use Rattle.std.specs.Prelude.{◌≤ℤ◌}
use Rattle.std.specs.Int.{w128}
use mir.Val.{SFits}
use Rattle.std.specs.List.{IsDistinct, insert}
use Rattle.std.specs.List.Sorted.{IsStrictlySortedBy}
use Rattle.std.specs.Map.{keys_of}
use Rattle.std.proofs.lemmas.Int.{ints}
use Rattle.iv_rows.specs.Cell.{Cell}
use Rattle.iv_rows.specs.Order.{row_eq}
use Rattle.iv_zset.specs.Rising.{IsGap, Rise}
use Rattle.iv_zset.specs.Weights.{Weighed, weight_of, SameZ, IsWeight, IsZSet}
use Rattle.iv_zset.proofs.Gaps.{Rise-insert, IsZSet-insert}
use Rattle.iv_zset.proofs.Places.{InRange-weight_of, IsZSet-none, weight_of-slice_get, weight_of-append}
use Rattle.iv_database.specs.Held.{IsRising}

pub IsRising-none : (rows : Weighed) → rows ≡ [] → IsRising rows
unfolding IsStrictlySortedBy
IsRising-none rows none = record { zset = IsZSet-none rows none; strictly = subst Rise (sym none) tt }

-- fs is es with one more row at its place, of weight w
pub IsRising-insert : (es fs : Weighed) (row : List Cell) (i : ℕ) (v w : ℤ) → fs ≡ insert es i (row, v) → v ≡ w → IsRising es → IsGap es row i → IsWeight w → IsRising fs
IsRising-insert es fs row i v w is h r g k = record { zset = IsZSet-insert es fs row i v w is h r.zset g k; strictly = Rise-insert es fs row i v is g }

-- ---- rows go into a tree, one after another

-- the sum of a row that goes into a tree is its weight
pub SFits-sum : (rest was total : Weighed) (row : List Cell) (w : ℤ) → IsZSet total → IsDistinct row_eq (keys_of ((row, w) ∷ rest)) → SameZ (((row, w) ∷ rest) ++ was) total → SFits w128 (weight_of was row +ℤ w)
SFits-sum rest was total row w zs d t =
    let i = InRange-weight_of total zs row in
    let low = i.0 in let high = i.1 in
    let whole : weight_of total row ≡ weight_of was row +ℤ w =
    sym (t row) ∙ weight_of-append ((row, w) ∷ rest) was row ∙ ap (λ x. x +ℤ weight_of was row) (weight_of-slice_get ((row, w) ∷ rest) 0 row w d refl)
    ∙ turn w (weight_of was row) in
    subst (SFits w128) whole (in_w128 (weight_of total row) low high)
  where
    turn : (a b : ℤ) → a +ℤ b ≡ b +ℤ a
    turn a b = omega (arith, ints)

    in_w128 : (w : ℤ) → negsuc (2 ^ 63 - 2) ≤ℤ w → w ≤ℤ pos (2 ^ 63 - 1) → SFits w128 w
    in_w128 w l h = omega (arith, ints)
