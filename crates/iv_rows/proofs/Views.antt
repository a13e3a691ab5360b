-- The derived comparisons of values are those of what they stand for.
use Rattle.std.proofs.Common.{◌≡◌, ◌∙◌, ◌&&◌, ℕ, suc, ◌++◌, false, length, refl, sym, ap, List, [], ◌∷◌}
use Rattle.std.proofs.Common.{get_or, drop, ◌+◌, ◌<◌}
use Rattle.std.proofs.Math.Bool.{and-false}
use Rattle.std.proofs.lemmas.List.{drop_more}
use Rattle.std.specs.Ordering.{ordering_then, is_eq}
use Rattle.std.specs.Cmp.Lexicographic.{pointwise, slice_cmp, lists_ties}
use Rattle.iv_rows.specs.declared.value.Value.{Value}
use Rattle.iv_rows.specs.declared.value.Value.TheVariants.{Int, Text, Flag}
use Rattle.iv_rows.specs.contracts.value.ValueOrd.TheImpl.{cmp-value}
use Rattle.iv_rows.specs.contracts.value.ValueOrd.TheImpl.Laws.{matches_eq-law}
use Rattle.iv_rows.specs.contracts.value.ValuePartialEq.TheImpl.{eq-value}
use Rattle.std.specs.List.{fold}
use Rattle.iv_rows.specs.Fed.{cell_fed, row_fed}
use Rattle.iv_rows.specs.Cell.{Cell}
use Rattle.iv_rows.specs.Order.{cell_cmp, row_cmp, row_eq}
use Rattle.iv_rows.specs.View.{cell_of, cells_of}

pub same_cmp : (v w : Value) → cmp-value.it v w ≡ cell_cmp (cell_of v) (cell_of w)
same_cmp (Int a) (Int b) = refl
same_cmp (Int a) (Text t) = refl
same_cmp (Int a) (Flag q) = refl
same_cmp (Text s) (Int b) = refl
same_cmp (Text s) (Text t) = refl
same_cmp (Text s) (Flag q) = refl
same_cmp (Flag p) (Int b) = refl
same_cmp (Flag p) (Text t) = refl
same_cmp (Flag p) (Flag q) = refl

pub row_cmp-slice_cmp : (vs ws : List Value) → slice_cmp cmp-value.it vs ws ≡ row_cmp (cells_of vs) (cells_of ws)
row_cmp-slice_cmp [] [] = refl
row_cmp-slice_cmp [] (w ∷ ws) = refl
row_cmp-slice_cmp (v ∷ vs) [] = refl
row_cmp-slice_cmp (v ∷ vs) (w ∷ ws) = λ i. ordering_then (same_cmp v w i) (row_cmp-slice_cmp vs ws i)

-- values that are equal one by one are one row
pub same_row_eq : (vs ws : List Value) → pointwise eq-value.it vs ws ≡ row_eq (cells_of vs) (cells_of ws)
same_row_eq vs ws = lists_ties cmp-value.it matches_eq-law vs ws ∙ ap is_eq (row_cmp-slice_cmp vs ws)

fold_then : {S A : Type 0} (f : S → A → S) (s : S) (xs ys : List A) → fold f s (xs ++ ys) ≡ fold f (fold f s xs) ys
fold_then f s [] ys = refl
fold_then f s (x ∷ xs) ys = fold_then f (f s x) xs ys

-- what values and then one more feed
pub fed_more : {S : Type 0} (write : S → List ℕ → S) (s : S) (cs : List Cell) (c : Cell) → fold write s (row_fed (cs ++ c ∷ [])) ≡ fold write (fold write s (row_fed cs)) (cell_fed c)
fed_more write s [] c = fold_then write s (cell_fed c) []
fed_more write s (d ∷ cs) c =
    fold_then write s (cell_fed d) (row_fed (cs ++ c ∷ [])) ∙ fed_more write (fold write s (cell_fed d)) cs c
    ∙ ap (λ t. fold write t (cell_fed c)) (sym (fold_then write s (cell_fed d) (row_fed cs)))

-- rows of as many values are equal where their first values and the others are
pub equal_more : (v w : Value) (vs ws : List Value) → row_eq (cells_of (v ∷ vs)) (cells_of (w ∷ ws)) ≡ (eq-value.it v w && row_eq (cells_of vs) (cells_of ws))
equal_more v w vs ws = sym (same_row_eq (v ∷ vs) (w ∷ ws)) ∙ ap (λ b. eq-value.it v w && b) (same_row_eq vs ws)

-- rows of different lengths are not equal
pub row_eq-other_length : (vs ws : List Value) → (length vs ≡ length ws → ⊥) → false ≡ row_eq (cells_of vs) (cells_of ws)
row_eq-other_length [] [] h = absurd (h refl)
row_eq-other_length [] (w ∷ ws) h = refl
row_eq-other_length (v ∷ vs) [] h = refl
row_eq-other_length (v ∷ vs) (w ∷ ws) h = sym (equal_more v w vs ws ∙ ap (λ b. eq-value.it v w && b) (sym (row_eq-other_length vs ws (λ e. h (ap suc e)))) ∙ and-false (eq-value.it v w))

-- from a place on, by the values at it
pub row_eq-drop : (vs ws : List Value) (i : ℕ) (v w : Value) → v ≡ get_or vs i v → w ≡ get_or ws i w → i < length vs → i < length ws
    → row_eq (cells_of (drop i vs)) (cells_of (drop i ws)) ≡ (eq-value.it v w && row_eq (cells_of (drop (i + 1) vs)) (cells_of (drop (i + 1) ws)))
row_eq-drop vs ws i v w at to p q =
    let l : drop i vs ≡ v ∷ drop (i + 1) vs = drop_more vs i v p ∙ ap (λ x. x ∷ drop (i + 1) vs) (sym at) in
    let r : drop i ws ≡ w ∷ drop (i + 1) ws = drop_more ws i w q ∙ ap (λ x. x ∷ drop (i + 1) ws) (sym to) in
    (λ j. row_eq (cells_of (l j)) (cells_of (r j))) ∙ equal_more v w (drop (i + 1) vs) (drop (i + 1) ws)
