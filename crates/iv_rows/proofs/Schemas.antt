-- A loop's step through the columns.
use Rattle.std.proofs.Common.{◌≡◌, ℕ, suc, ◌+◌, ◌<◌, Bool, true, false, ◌&&◌, List, [], ◌∷◌, length, drop, get_or, refl, sym, ap, ◌∙◌, add-one, drop-cons}
use Rattle.std.specs.Prelude.{not, bytes_eq}
use Rattle.std.specs.List.{list_any}
use Rattle.iv_rows.specs.Columns.{Column, accepts, kinds_of, is_kind, has_distinct_names}
use Rattle.iv_rows.specs.View.{cell_of, cells_of}
use Rattle.iv_rows.specs.declared.value.Value.{Value}

and_false : (b : Bool) → (b && false) ≡ false
and_false true = refl
and_false false = refl

pub accepts-other_length : (cs : List Column) (vs : List Value) → (length vs ≡ length cs → ⊥) → false ≡ accepts (kinds_of cs) (cells_of vs)
accepts-other_length [] [] h = absurd (h refl)
accepts-other_length [] (v ∷ vs) h = refl
accepts-other_length (k ∷ ks) [] h = refl
accepts-other_length (k ∷ ks) (v ∷ vs) h = sym (and_false (is_kind k.kind (cell_of v))) ∙ ap (λ b. is_kind k.kind (cell_of v) && b) (accepts-other_length ks vs (λ e. h (ap suc e)))

-- the column at a place and the value there, and those behind them
pub accepts_at : (cs : List Column) (vs : List Value) (i : ℕ) (c : Column) (v : Value) → i < length cs → i < length vs → accepts (kinds_of (drop i cs)) (cells_of (drop i vs)) ≡ (is_kind (get_or cs i c).kind (cell_of (get_or vs i v)) && accepts (kinds_of (drop (i + 1) cs)) (cells_of (drop (i + 1) vs)))
accepts_at cs vs i c v h g =
    (λ j. accepts (kinds_of (drop-cons cs i c h j)) (cells_of (drop-cons vs i v g j)))
    ∙ ap (λ m. is_kind (get_or cs i c).kind (cell_of (get_or vs i v)) && accepts (kinds_of (drop m cs)) (cells_of (drop m vs))) (sym (add-one i))

-- the column at a place, and those behind it
pub distinct_at : (cs : List Column) (i : ℕ) (c : Column) → i < length cs → has_distinct_names (drop i cs) ≡ (not (list_any (λ d. bytes_eq (get_or cs i c).name d.name) (drop (i + 1) cs)) && has_distinct_names (drop (i + 1) cs))
distinct_at cs i c h =
    ap has_distinct_names (drop-cons cs i c h)
    ∙ ap (λ m. not (list_any (λ d. bytes_eq (get_or cs i c).name d.name) (drop m cs)) && has_distinct_names (drop m cs)) (sym (add-one i))
